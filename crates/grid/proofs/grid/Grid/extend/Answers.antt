use Rattle.std.proofs.Common.{◌≡◌, ℕ, ◌+◌, ◌<◌, List, set, sym, ap, ◌∙◌, subst, arith}
use Rattle.std.proofs.lemmas.List.{get_or-set_other}
use Rattle.grid.specs.declared.node.Node.{Node}
use Rattle.grid.specs.declared.node.Node.TheVariants.{Empty}
use Rattle.grid.specs.Nodes.{node_at}
use Rattle.grid.specs.Edits.{lead_of, leading}
use Rattle.grid.specs.Derived.{key_eq}
use Rattle.grid.specs.Build.{Safe, Grown, reached}
use Rattle.grid.proofs.Growth.{extend_there, extend_new}
use Rattle.grid.proofs.Sound.{sound_at, within_lt}
use Rattle.grid.proofs.Safety.{lead_within, safe_grown}
use Rattle.grid.proofs.grid.Grid.extend.Goals as goal

-- a node is as it was when another place has been written
stays : (N : List Node) (u p : ℕ) (n : Node) → p < u → node_at (set N u n) p ≡ node_at N p
stays N u p n h = get_or-set_other N u p n Empty (λ e. omega (arith, e))

pub invariant_of-self-in-None : goal.invariant_of-self-in-None
invariant_of-self-in-None g c =
    let self = c.args.self.now in
    let N = self.nodes.now in
    let b = c.bud.ensures in
    let l = c.lead_to.ensures ∙ ap (λ (n : Node). leading n c.args.way self.used) (stays N self.used c.args.at c.bud.result c.requires.start) in
    let s = subst (λ (z : Node × Node). Safe (self.used + 1) (set (set N self.used z.0) c.args.at z.1)) (λ j. (sym b j, sym l j))
    (safe_grown self.used N c.args.at c.args.way (record { fits = self.fits; linked = self.linked; rest = self.rest }) (omega (arith, c.requires.room.0)) c.requires.start) in
    record { fits = s.fits; linked = s.linked; rest = s.rest }

pub returns-in-Some-clause-found : goal.returns-in-Some-clause-found
returns-in-Some-clause-found g c =
    let self = c.args.self.now in
    let n = node_at self.nodes.now c.args.at in
    within_lt self.used c.in-Some.next (lead_of n c.args.way) (lead_within self.used n c.args.way (sound_at self.used self.nodes.now c.args.at self.linked)) c.in-Some.ensures

pub returns-in-Some-clause-grid : goal.returns-in-Some-clause-grid
returns-in-Some-clause-grid g c =
    let self = c.args.self.now in
    λ own keys k st e h. extend_there own keys self.nodes.now self.used st k c.args.way c.args.at c.in-Some.next e h c.in-Some.ensures

pub returns-in-None-clause-grid : goal.returns-in-None-clause-grid
returns-in-None-clause-grid g c =
    let self = c.args.self.now in
    let N = self.nodes.now in
    let b = c.bud.ensures in
    let l = c.lead_to.ensures ∙ ap (λ (n : Node). leading n c.args.way self.used) (stays N self.used c.args.at c.bud.result c.requires.start) in
    λ own keys k st e h.
    subst (λ (z : Node × Node). Grown own keys (λ m. key_eq m (reached k c.args.way)) (reached k c.args.way) (set (set N self.used z.0) c.args.at z.1) (self.used + 1) self.used)
    (λ j. (sym b j, sym l j))
    (extend_new own keys N self.used st k c.args.way c.args.at e h c.in-None.ensures (omega (arith, c.requires.room.0)))
