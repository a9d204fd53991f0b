-- Labels of a list of places: whether they are apart, and taking one out.
use Rattle.std.specs.Prelude.{ℕ, Bool, true, cond, not, ◌&&◌, List, [], ◌∷◌, ◌==◌}
use Rattle.tables.specs.Verdict.{has}

-- no label is 0, and none stands twice
abbrev pub apart : List ℕ → Bool
apart [] = true
apart (n ∷ ns) = not (n == 0) && (not (has n ns) && apart ns)

-- the list without the first element of label n
abbrev pub without : {X : Type 0} → (X → ℕ) → ℕ → List X → List X
without label n [] = []
without label n (x ∷ xs) = cond (label x == n) xs (x ∷ without label n xs)
