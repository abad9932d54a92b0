use Rattle.std.proofs.Common.{◌≡◌, arith, false, true}
use Rattle.fl_crew_calls.specs.Asking.{Comes}
use Rattle.fl_crew_calls.proofs.Serving.{comes_one, comes_refused, comes_unreplied}
use Rattle.fl_crew_calls.proofs.crews.Crews.take.Goals as goal

no_more : false ≡ true → ⊥
no_more e = cc

pub returns-in_default : goal.returns-in_default
returns-in_default g c = Comes.no_room c.requires

pub returns-in-Some : goal.returns-in-Some
returns-in-Some g c =
    comes_one g.M.K.Keeper.custody c.args.self.now c.batch.new.self c.args.number c.args.packet
    c.pop.new.self.items c.in-Some.reply c.requires c.new.ensures.items c.in-Ok.ensures.items
    c.in-Ok-batch.ensures.ok c.in-Some.ensures.items

pub returns-in-Ok-batch : goal.returns-in-Ok-batch
returns-in-Ok-batch g c =
    comes_unreplied g.M.K.Keeper.custody c.args.self.now c.batch.new.self c.args.number
    c.args.packet _ c.new.ensures.items c.in-Ok.ensures.items c.in-Ok-batch.ensures.ok
    (λ some. no_more (c.in-None.ensures.variant.1 (omega (arith, some, c.in-Ok-batch.replies.ok.0))))

pub returns : goal.returns
returns g c =
    comes_refused g.M.K.Keeper.custody c.args.self.now c.batch.new.self c.args.number
    c.args.packet c.in-Err.fault c.requires c.new.ensures.items c.in-Ok.ensures.items c.in-Err.ensures.err
