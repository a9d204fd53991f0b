use Rattle.std.proofs.Common.{◌≡◌, ◌+◌, ◌<◌, ◌≤◌, List, [], length, Some, Option}
use Rattle.kinds.specs.Strings.{Str}
use Rattle.grid.specs.declared.node.Kept.{Kept}
use Rattle.grid.specs.Derived.{Key, place}
use Rattle.grid.specs.Build.{State, Grown, in_trie, above}
use Rattle.grid.proofs.grid.Grid.insert_path.Given as goal

-- the bits so far are inserted
abbrev pub invariant-loop-bit : goal.invariant-loop-bit
invariant-loop-bit g l =
    (length l.self.nodes.now ≡ length l.initial.self.nodes.now)
    × (l.at < l.self.used)
    × (l.initial.self.used ≤ l.self.used)
    × (l.self.used ≤ l.initial.self.used + length l.yielded)
    × ((own : Str → Str → Option Kept) (keys : List Key) (o : Option Str)
    → State own keys l.initial.self.nodes.now l.initial.self.used → place (in_trie o []) keys ≡ Some l.initial.at
    → Grown own keys (above (in_trie o l.yielded)) (in_trie o l.yielded) l.self.nodes.now l.self.used l.at)
