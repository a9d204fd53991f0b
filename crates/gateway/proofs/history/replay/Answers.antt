use Rattle.std.proofs.Common.{◌≡◌, ℕ, ◌+◌, List, ◌∷◌, length, drop, sym, refl, ap, ◌∙◌, subst, arith}
use Rattle.std.proofs.lemmas.List.{at_drop_more, at_drop_all, length-replicate}
use Rattle.book.specs.Books.{capacity_of}
use Rattle.filters.specs.Meaning.{Record}
use Rattle.grid.specs.declared.node.Node.TheVariants.{Empty}
use Rattle.grid.specs.Refusals.{trail_verdict}
use Rattle.gateway.specs.declared.history.Call.{Call}
use Rattle.gateway.specs.Assurance.{answer_of, room_of, places_of}
use Rattle.gateway.specs.History.{past}
use Rattle.gateway.specs.Kinds.{kinds_of, BookOf, GridOf}
use Rattle.gateway.proofs.Assured.{accepted_noted}
use Rattle.gateway.proofs.Reached.{Reached, reached_none, reached_more, reached_all, assured_after}
use Rattle.gateway.proofs.history.replay.Goals as goal

pub loop-call-init : goal.loop-call-init
loop-call-init g c =
    let K = kinds_of g.D.Address g.D.Written g.D.Pattern.Plain g.S.Address g.S.Written g.S.Pattern.Plain g.C.Cost g.C.Written g.C.Pattern.Plain in
    (reached_none K c.new-gateway.result c.args.calls.now (c.new-gateway.ensures.history c.new-book.ensures.0 c.new-grid.ensures.grid), refl, λ few. refl)

pub loop-call-preserved : goal.loop-call-preserved
loop-call-preserved g c =
    let K = kinds_of g.D.Address g.D.Written g.D.Pattern.Plain g.S.Address g.S.Written g.S.Pattern.Plain g.C.Cost g.C.Written g.C.Pattern.Plain in
    let calls = c.args.calls.now in
    let i = c.loop-call.call-index in
    let item = c.call-item.result in
    let e : drop i calls ≡ item ∷ drop (i + 1) calls =
    at_drop_more (λ (zs : List (Call g.row.D.Denot g.row.S.Denot g.row.C.Denot)). zs) calls i item c.loop-call-test.true
    ∙ ap (λ (z : Call g.row.D.Denot g.row.S.Denot g.row.C.Denot). z ∷ drop (i + 1) calls) (sym c.call-item.is) in
    let few = c.loop-call.invariant.1 in
    let long = c.make_call.auto.trail in (
      reached_more K c.new-gateway.result c.loop-call.gateway c.make_call.new.gateway calls (drop (i + 1) calls) item
          (subst (λ (zs : List (Call g.row.D.Denot g.row.S.Denot g.row.C.Denot)). Reached K c.new-gateway.result c.loop-call.gateway calls zs) e c.loop-call.invariant.0)
          c.make_call.ensures.history,
      long ∙ few,
      λ short. c.make_call.ensures.same (omega arith) ∙ c.loop-call.invariant.2 short,
    )

pub returns : goal.returns
returns g c =
    let K = kinds_of g.D.Address g.D.Written g.D.Pattern.Plain g.S.Address g.S.Written g.S.Pattern.Plain g.C.Cost g.C.Written g.C.Pattern.Plain in
    let calls = c.args.calls.now in
    let i = c.loop-call.call-index in
    let v = c.new-gateway.result in
    let cap = capacity_of (length c.args.places.now) in
    let places = length c.args.nodes.now in
    let d = g.D.Address.string c.args.destination.now in
    let s = g.S.Address.string c.args.source.now in
    let room : room_of K v ≡ cap =
    ap (λ (b : BookOf K). capacity_of (length b.places.now)) c.new-gateway.ensures.book
    ∙ ap (λ (xs : List (Record g.row.D-Pattern.Denot g.row.S-Pattern.Denot g.row.C-Pattern.Denot)). capacity_of (length xs)) c.new-book.ensures.1 in
    let all : places_of K v ≡ places =
    ap (λ (w : GridOf K). length w.nodes.now) c.new-gateway.ensures.grid
    ∙ ap length c.new-grid.ensures.memory
    ∙ length-replicate places Empty in
    let h =
    reached_all K v c.loop-call.gateway calls cap places room all
    (subst (λ (zs : List (Call g.row.D.Denot g.row.S.Denot g.row.C.Denot)). Reached K v c.loop-call.gateway calls zs)
    (at_drop_all (λ (zs : List (Call g.row.D.Denot g.row.S.Denot g.row.C.Denot)). zs) calls i c.loop-call-test.false) c.loop-call.invariant.0) in
    let few = c.loop-call.invariant.1 in
    record {
      assured =
          assured_after K (record { exchange = g.met.C.Cost.exchange; chain = g.met.C.Cost.chain }) d s
          (g.met.D.Address.long c.args.destination.now) (g.met.S.Address.long c.args.source.now)
          (past K cap places calls) c.loop-call.gateway h (length c.args.trail.now)
          (record { found = c.classify-found.result; trailed = c.trail-trailed.result; nodes = c.nodes.result })
          (c.classify-found.ensures.answer (past K cap places calls) h)
          (c.trail-trailed.ensures.answer (past K cap places calls) h
          ∙ ap (λ (n : ℕ). trail_verdict n g.D.Address.WIDTH g.S.Address.WIDTH (answer_of K (past K cap places calls).built d s)) few)
          c.nodes.ensures;
      same = λ short. c.trail-trailed.ensures.same (omega arith) ∙ c.loop-call.invariant.2 short;
      marked = λ enough.
          let n =
          accepted_noted h.derived.keys (past K cap places calls).built d s c.loop-call.trail c.trail-trailed.new.trail (length c.loop-call.trail) g.D.Address.WIDTH g.S.Address.WIDTH
          (answer_of K (past K cap places calls).built d s) (omega (arith, few)) (c.trail-trailed.ensures.memory (past K cap places calls) h) in
          record { keys = h.derived.keys; distinct = h.derived.distinct; whole = h.derived.whole; places = n.places };
    }
