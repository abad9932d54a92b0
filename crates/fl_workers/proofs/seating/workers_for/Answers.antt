use Rattle.std.proofs.Common.{◌∙◌, ◌≡◌, ap, length, arith, Some}
use Rattle.std.proofs.Common.{length-append}
use Rattle.std.proofs.lemmas.List.Elements.{All-pop}
use Rattle.fl_bench.specs.Bench.{new_bench}
use Rattle.fl_replica.specs.Boards.{Front}
use Rattle.fl_workers.proofs.Seats.{numbered_more, benches_more, boards_more}
use Rattle.fl_workers.proofs.seating.workers_for.Goals as goal

at_front : (given had front : Front) → had ≡ given → given ≡ front → had.board ≡ front.board
at_front given had front same is = ap (λ (d : Front). d.board) (same ∙ is)

pub loop-index-preserved : goal.loop-index-preserved
loop-index-preserved c =
    let at = c.loop-index in
    let inv = at.invariant in
    let n = at.index in
    let ws = at.workers.items in
    let ws' = c.push_reserved.new.self.items in
    let w = c.new.result in
    let pushed = c.push_reserved.ensures.items in
    let desks = simp length-append at (ap length c.in-Some-Some.ensures.items) in
    let ends = simp length-append at (ap length c.in-Some-Some.ensures'.items) in
    let count = simp length-append at (ap length pushed) in
    record {
      desks = omega (arith, desks, inv.desks);
      ends = omega (arith, ends, inv.ends);
      count = omega (arith, count, inv.count);
      room = omega (arith, inv.room, c.push_reserved.ensures.capacity);
      numbered = numbered_more ws ws' w n pushed inv.count inv.numbered c.new.ensures.number
          (omega (arith, count, inv.count));
      benches = benches_more ws ws' w n pushed inv.count
          (λ index. new_bench c.args.number c.args.boot index c.args.size) inv.benches
          (c.new.ensures.bench ∙ c.new-bench.ensures);
      left = λ front all.
          (All-pop (λ (d : Front). d ≡ front) at.desks.items c.pop.new.self.items c.pop.result
          c.pop.ensures.items (inv.left front all)).0;
      boards = λ front all.
          boards_more ws ws' w n pushed inv.count front.board (inv.boards front all)
          (at_front c.in-Some-Some.desk w.desk front c.new.ensures.desk
          (All-pop (λ (d : Front). d ≡ front) at.desks.items c.pop.new.self.items
          (Some c.in-Some-Some.desk) c.in-Some-Some.ensures.items (inv.left front all)).1);
    }
