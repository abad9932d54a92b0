use Rattle.fl_world.proofs.Headlines.{safe_processes}
use Rattle.fl_world.proofs.laws.law_headline.Goals as goal

pub returns : goal.returns
returns c = λ w reached. record {
  names = record {
    once = λ a b. c.law_names.ensures.one_operation w a b reached;
    owned = λ op s. c.law_names.ensures.owned w op s reached;
    published = λ number s. c.law_names.ensures.published w number s reached;
    sent = λ sent op. c.law_names.ensures.sent w sent op reached;
  };
  endpoints = safe_processes w (λ number k s b pid p. c.law_safe.ensures.endpoints w number k s b pid p reached);
  audit = record { safe = λ later entry. c.law_safe.ensures.admissions w later entry reached };
}
