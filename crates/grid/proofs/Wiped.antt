-- Memory whose places are all empty.
use Rattle.std.proofs.Common.{◌≡◌, ℕ, zero, suc, ◌-◌, Bool, true, false, List, [], ◌++◌, length, drop, replicate, refl, ap, ◌∙◌, append-nil, arith}
use Rattle.std.proofs.Math.Seq.{drop-length}
use Rattle.std.proofs.lemmas.List.{length-replicate}
use Rattle.filters.specs.Rules.{Rule}
use Rattle.grid.specs.declared.node.Node.{Node}
use Rattle.grid.specs.declared.node.Node.TheVariants.{Empty}
use Rattle.grid.specs.Nodes.{sound, bare}
use Rattle.grid.specs.Derived.{Derived, Key, destination, source, is_key}

pub sound_wiped : (used n : ℕ) → sound used (replicate n Empty) ≡ true
sound_wiped used zero = refl
sound_wiped used (suc n) = sound_wiped used n

pub bare_wiped : (n : ℕ) → bare (replicate n Empty) ≡ true
bare_wiped zero = refl
bare_wiped (suc n) = bare_wiped n

-- empty memory is the grid of no filters
pub derived_wiped : {C : Type 0} (lt : Rule C → Rule C → Bool) (n : ℕ) → Derived lt [] (replicate n Empty) 0
derived_wiped {C = C} lt n =
    record {
      keys = [];
      long = refl;
      distinct = refl;
      whole = none;
      rooted = tt;
      nodes = let e = length-replicate {A = Node} n Empty in let m : n ≡ length {A = Node} (replicate n Empty) - 0 = omega arith in ap (λ (m : ℕ). replicate {A = Node} m Empty) m;
    }
  where
    none : (k : Key) → false ≡ is_key {C = C} [] k
    none (destination t) = refl
    none (source D s) = refl

-- what is left when all places have been emptied
pub wiped_all : (N W : List Node) → W ≡ replicate (length N) Empty ++ drop (length N) N → W ≡ replicate (length N) Empty
wiped_all N W e = e ∙ ap (λ (r : List Node). replicate (length N) Empty ++ r) (drop-length N) ∙ append-nil (replicate (length N) Empty)
