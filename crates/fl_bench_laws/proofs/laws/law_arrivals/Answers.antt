use Rattle.fl_bench_laws.specs.laws.Arrivals.{arrival_safe, sent_safe}
use Rattle.fl_bench_laws.proofs.laws.law_arrivals.Goals as goal

pub returns : goal.returns
returns c = λ sending earlier taking ops a sent b after job message outcome p q from lived sends at lives arrives. arrival_safe q lives at arrives (sent_safe message p lived from sends)
