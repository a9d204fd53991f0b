-- The grid that a list of filters makes: which nodes it has, and where they lead.
-- A destination node is named by its string; a source node by its destination string and its source string.
use Rattle.std.specs.Prelude.{ℕ, zero, suc, ◌+◌, ◌*◌, Bool, cond, ◌&&◌, List, map, Some, Option}
use Rattle.kinds.specs.Strings.{Str, starts, equal, snoc}
use Rattle.filters.specs.Rules.{Rule}
use Rattle.tries.specs.Prefixes.{fronts, longest, longest_proper, any, flat, distinct}

-- there is a destination node of t: t is a prefix of some filter's destination prefix
abbrev pub has_dst : {C : Type 0} → List (Rule C) → Str → Bool
has_dst F t = any (λ f. starts t f.destination) F

-- there is a source node (D, s): s is a prefix of the source prefix of some filter with destination exactly D
abbrev pub has_src : {C : Type 0} → List (Rule C) → Str → Str → Bool
has_src F D s = any (λ f. equal D f.destination && starts s f.source) F

-- the strings of the destination nodes, some of them several times
abbrev pub dst_keys : {C : Type 0} → List (Rule C) → List Str
dst_keys F = flat (λ f. fronts f.destination) F

-- the source nodes, some of them several times
abbrev pub src_keys : {C : Type 0} → List (Rule C) → List (Str × Str)
src_keys F = flat (λ f. map (λ s. (f.destination, s)) (fronts f.source)) F

-- the two are the same source node
abbrev pub same_key : Str × Str → Str × Str → Bool
same_key k l = equal k.0 l.0 && equal k.1 l.1

-- the number of nodes
abbrev pub nodes : {C : Type 0} → List (Rule C) → ℕ
nodes F = distinct equal (dst_keys F) + distinct same_key (src_keys F)

-- the node places that are enough for any n filters, wd and ws being the widths of destination and source
abbrev pub need : ℕ → ℕ → ℕ → ℕ
need zero wd ws = 0
need (suc n) wd ws = 1 + suc n * (wd + ws + 1)

-- the longest prefix of t with a source node for s
abbrev pub deepest : (Str → Str → Bool) → Str → Str → Option Str
deepest has t s = longest (λ P. has P s) t

-- where (D, s) leads by b: to its child (D, s·b), or else, by its switch, to (A, s·b), A being the longest proper prefix of D
-- that has that node. The answer is the destination string of the node led to.
abbrev pub next : (Str → Str → Bool) → Str → Str → Bool → Option Str
next has D s b = cond (has D (snoc s b)) (Some D) (longest_proper (λ A. has A (snoc s b)) D)
