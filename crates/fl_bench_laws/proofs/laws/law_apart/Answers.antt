use Rattle.fl_bench_laws.proofs.Apart.{index_apart, next_apart, there_apart}
use Rattle.fl_bench_laws.proofs.laws.law_apart.Goals as goal

pub returns-clause-opened : goal.returns-clause-opened
returns-clause-opened c = index_apart

pub returns-clause-next : goal.returns-clause-next
returns-clause-next c = λ a b p q same apart one two. next_apart same apart one two

pub returns-clause-there : goal.returns-clause-there
returns-clause-there c = λ a b p q x y same apart h k one two. there_apart same apart h k one two
