use Rattle.std.proofs.Common.{◌≡◌, map, drop}
use Rattle.std.specs.Option.{option_map}
use Rattle.filters.specs.Rules.{linear, better, only, matches, scan}
use Rattle.filters.specs.Meaning.{rule_of, rules}
use Rattle.filters.proofs.search.linear_search.Given as goal

-- going on from here ends where reading all from the start does
abbrev pub invariant-loop-place : goal.invariant-loop-place
invariant-loop-place g l =
    scan (better g.C.Cost.order) (option_map (rule_of g.D.Address.string g.S.Address.string) l.best) (map (only (better g.C.Cost.order) (matches (g.D.Address.string l.destination) (g.S.Address.string l.source))) (rules g.D.Address.spells g.S.Address.spells g.C.Written.reads (drop l.place-index l.places)))
    ≡ linear (better g.C.Cost.order) (rules g.D.Address.spells g.S.Address.spells g.C.Written.reads l.places) (g.D.Address.string l.destination) (g.S.Address.string l.source)
