-- The searches worked by hand: by computation, but for what is said of every address.
use Rattle.std.proofs.Common.{◌≡◌, ◌+◌, true, [], ◌∷◌, length, Some, Option, refl, ap, ◌∙◌}
use Rattle.kinds.specs.Strings.{Str}
use Rattle.tries.specs.Prefixes.{further}
use Rattle.tries.specs.Shape.{has_dst, has_src, deepest}
use Rattle.tries.specs.Search.{way, walk, path, visits}
use Rattle.tries.specs.Worked.{all, WorkedSearches}
use Rattle.tries.proofs.Longest.{longest_never}
use Rattle.tries.proofs.Walks.{rest}

-- with one filter that matches everything there is one destination node, and one source node
all_way : (d : Str) → length (way (has_dst all) d) ≡ 1
all_way [] = refl
all_way (b ∷ []) = refl
all_way (b ∷ c ∷ d) = refl

all_deepest : (d : Str) → deepest (has_src all) d [] ≡ Some []
all_deepest [] = refl
all_deepest (b ∷ d) = ap (λ o. further b true o) (longest_never (λ u. has_src all (b ∷ u) []) d (λ u. refl))

all_walk : (s : Str) → length (walk (has_src all) [] [] s) ≡ 1
all_walk [] = refl
all_walk (b ∷ s) = refl

all_visits : (d s : Str) → visits all d s ≡ 2
all_visits d s =
    ap (λ n. n + length (path (has_src all) d s)) (all_way d)
    ∙ ap (λ (o : Option Str). 1 + length (rest (has_src all) [] s o)) (all_deepest d)
    ∙ ap (λ n. 1 + n) (all_walk s)

pub worked_searches : WorkedSearches
worked_searches =
    record {
      nodes_of_the_book = refl;
      best_behind_a_switch = (refl, refl, refl);
      smaller_label_at_equal_cost = (refl, refl, refl);
      destination_left_early = (refl, refl, refl);
      only_the_outermost_source_trie = (refl, refl, refl);
      nothing_matches = (refl, refl, refl);
      switch_at_the_first_bit = (refl, refl, refl);
      nodes_when_withdrawn = refl;
      next_best_when_withdrawn = (refl, refl);
      best_before_a_switch = (refl, refl);
      nodes_of_all = refl;
      every_search_visits_two = all_visits;
      destination_missed = λ s. (refl, refl);
      places_for_two_filters = refl;
    }
