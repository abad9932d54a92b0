use Rattle.fl_bench.specs.laws.Orders.{cancel_back, sending_leaves, refusal_leaves}
use Rattle.fl_bench_laws.proofs.laws.law_taken_back.Goals as goal

pub returns-clause-order : goal.returns-clause-order
returns-clause-order c = λ ops b after job body pid d. cancel_back d

pub returns-clause-packet : goal.returns-clause-packet
returns-clause-packet c = λ ops b after job packet d. sending_leaves d

pub returns-clause-refusal : goal.returns-clause-refusal
returns-clause-refusal c = λ ops b after job refusal d. refusal_leaves d
