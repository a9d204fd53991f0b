use Rattle.std.proofs.Common.{◌≡◌, ℕ, List, [], ◌∷◌, ◌++◌, ap, ◌∙◌}
use Rattle.std.proofs.lemmas.Fmt.{contents_after_writes}
use Rattle.arrayvec.specs.ArrayString.{ArrayString}
use Rattle.report.specs.Lines.{text, said}
use Rattle.report.proofs.lines.shown.Goals as goal

pub returns : goal.returns
returns c =
    contents_after_writes (λ (s : ArrayString) (bytes : List ℕ) (t : ArrayString). t.bytes ≡ s.bytes ++ bytes) (λ (s : ArrayString). s.bytes) (λ s bytes t h. h) _ _ _ c.in_ok-writeln.ensures.writes
    ∙ ap (λ (l : List ℕ). l ++ (text (said c.args.line.now) ++ (10 ∷ []))) c.new-shown.ensures
