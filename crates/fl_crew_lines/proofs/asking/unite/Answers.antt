use Rattle.std.proofs.Common.{refl, inl, inr}
use Rattle.fl_crew_lines.proofs.Serving.{union_starved, union_stopped, union_told}
use Rattle.fl_crew_lines.proofs.asking.unite.Goals as goal

pub returns-in-Err : goal.returns-in-Err
returns-in-Err g c =
    union_stopped c.args.crews.now c.args.first c.args.second c.args.first c.in-Err.fault c.refused.result (inl refl) c.requires.first
    c.in-Err.ensures.err c.refused.ensures

pub returns-in-Err-serving : goal.returns-in-Err-serving
returns-in-Err-serving g c =
    union_stopped c.args.crews.now c.args.first c.args.second c.args.second c.in-Err-serving.fault c.refused-in-Err-serving.result
    (inr refl) c.requires.second c.in-Err-serving.ensures.err c.refused-in-Err-serving.ensures

pub returns-in-Ok-all_of : goal.returns-in-Ok-all_of
returns-in-Ok-all_of g c =
    union_told c.args.crews.now c.args.first c.args.second c.in-Ok.one.now c.in-Ok-serving.other.now c.in-Ok-all_of.all
    c.in-Ok.ensures.ok c.in-Ok-serving.ensures.ok c.in-Ok-all_of.ensures.ok

pub returns-in-Err-all_of : goal.returns-in-Err-all_of
returns-in-Err-all_of g c =
    union_starved c.args.crews.now c.args.first c.args.second c.in-Ok.one.now c.in-Ok-serving.other.now c.refused-in-Err-all_of.result
    c.in-Ok.ensures.ok c.in-Ok-serving.ensures.ok c.in-Err-all_of.ensures.wants c.refused-in-Err-all_of.ensures
