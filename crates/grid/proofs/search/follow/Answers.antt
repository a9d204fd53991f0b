use Rattle.std.proofs.Common.{◌≡◌, suc, map, length, set, Some, sym, ap, ◌∙◌, arith}
use Rattle.std.specs.Option.{option_map}
use Rattle.std.proofs.lemmas.List.Edits.{sets}
use Rattle.grid.specs.Steps.{along, trace, stepped, visited}
use Rattle.grid.proofs.Alongs.{along_on, notes_on, lead_inside}
use Rattle.grid.proofs.search.follow.Goals as goal

pub visit-walk-requires-in-loop-bit-clause-inside : goal.visit-walk-requires-in-loop-bit-clause-inside
visit-walk-requires-in-loop-bit-clause-inside g c =
    lead_inside g.H.Half.leads c.args.nodes.now c.requires.linked g.met.H.Half.inside c.loop-bit.walk.at c.in-Some.bit c.in-Some-next.at c.in-Some-next.ensures

pub loop-bit-preserved : goal.loop-bit-preserved
loop-bit-preserved g c =
    let N = c.args.nodes.now in
    let step = stepped g.H.Half.leads g.H.Half.keeps N in
    let w = c.loop-bit.walk in
    let v = c.visit-walk-in-loop-bit.result in
    let b = c.in-Some.bit in
    let r = c.next.new.self in
    let bits = c.in-Some.ensures.steps in
    let to = c.visit-walk-in-loop-bit.ensures.state in
    let e : Some v ≡ step w b = ap Some to ∙ ap (option_map (visited g.H.Half.keeps N w.kept w.visits)) c.in-Some-next.ensures in
    let at = ap (λ x. x.at) to in
    let inside = lead_inside g.H.Half.leads N c.requires.linked g.met.H.Half.inside w.at b c.in-Some-next.at c.in-Some-next.ensures in
    let one = ap (λ x. x.visits) to in
    let more = ap length bits in
    let few = c.loop-bit.invariant.3 in
    let next : v.visits ≡ suc w.visits = omega arith in (
      tt,
      tt,
      omega arith,
      omega arith,
      sym (along_on step w b r v e) ∙ ap (along step w) (sym bits) ∙ c.loop-bit.invariant.4,
      (λ i. sets ((c.visit-walk-in-loop-bit.ensures.notes ∙ ap (set c.loop-bit.trail w.visits) (sym at)) i) (next i) (map (λ x. x.at) (trace step v r)))
          ∙ notes_on step w b r (λ x. x.at) c.loop-bit.trail w.visits v e
          ∙ ap (λ t. sets c.loop-bit.trail w.visits (map (λ x. x.at) (trace step w t))) (sym bits)
          ∙ c.loop-bit.invariant.5,
    )
