use Rattle.std.proofs.Common.{◌∙◌, ◌++◌, ◌∷◌, [], sym, ap, length, map, arith, rules}
use Rattle.std.proofs.lemmas.List.{map-append, append-nil, append_assoc}
use Rattle.fl_crew_threads.specs.Receiving.{place_of, place_at}
use Rattle.fl_crew_threads.proofs.Going.{registers_nothing, registers_more}
use Rattle.fl_crew_threads.proofs.Received.{receives_nothing, receives_more}
use Rattle.fl_crew_threads.proofs.ruling.take_all.Goals as goal

pub loop-placed-init : goal.loop-placed-init
loop-placed-init g c =
    let old = c.args.registrar.now in
    record {
      rules = λ workers. registers_nothing g.K.Keeper.custody workers old;
      places = sym (append-nil (map place_of c.args.taken.now.items));
      received = receives_nothing old c.args.taken.now.items;
      room = search rules;
    }

pub loop-placed-preserved : goal.loop-placed-preserved
loop-placed-preserved g c =
    let loop = c.loop-placed in
    let pushed = c.push_reserved.ensures in
    let it = c.take-it.result in
    let placed = c.in-Some.placed in
    let first = map place_of c.args.taken.now.items in
    record {
      rules = λ workers. registers_more _ workers c.args.registrar.now loop.registrar c.take-it.new.registrar
          (loop.invariant.rules workers) (c.take-it.ensures.rules workers);
      places = ap (map place_of) pushed.items
          ∙ map-append place_of loop.taken.items (it ∷ [])
          ∙ (λ i. loop.invariant.places i ++ c.take-it.ensures.place i ∷ [])
          ∙ append_assoc first (map place_at loop.yielded) (placed.place ∷ [])
          ∙ (λ i. first ++ (sym (map-append place_at loop.yielded (placed ∷ []))) i);
      received = receives_more loop.yielded placed it c.args.taken.now.items loop.taken.items c.push_reserved.new.self.items
          c.args.registrar.now loop.registrar c.take-it.new.registrar loop.invariant.received c.take-it.ensures.received
          pushed.items (c.take-it.ensures.rules 0).room;
      room = omega (arith, pushed.len, pushed.capacity, loop.invariant.room, ap length c.in-Some.ensures.steps.0);
    }
