-- What is responded to the bytes of a line, as a turn of the session.
use Rattle.std.proofs.Common.{◌≡◌, ◌∙◌, ◌+◌, ◌≤◌, refl, sym, ap, subst, ℕ, min, nat_eq, arith}
use Rattle.std.proofs.Common.{Bool, true, false, List, Option}
use Rattle.fl_sink.specs.Sink.{Cuts, Passes}
use Rattle.fl_store.specs.Custody.{Custody}
use Rattle.fl_store.specs.Kept.{Kept}
use Rattle.fl_stream.specs.Turns.{AnswerCuts, AnswerPasses}
use Rattle.fl_node.specs.Desks.{IsDeskOf}
use Rattle.fl_system.specs.State.{NodeState}
use Rattle.fl_system.specs.World.{KeptNode}
use Rattle.fl_machine_calls.specs.Going.{IsSameNode}
use Rattle.fl_machine_turns.specs.Answer.{Answer}
use Rattle.fl_machine_turns.specs.AnswerText.{text_of}
use Rattle.fl_machine_turns.specs.Done.{AreCounted, Did}
use Rattle.fl_machine_turns.specs.Over.{MachineTurns, SessionOver, TurnOver, output_of}
use Rattle.fl_machine_turns.specs.Over.{session_with}
use Rattle.fl_machine_turns.specs.Turn.{AnswersLine, Session, Turn, ends, most_counted}
use Rattle.fl_machine.specs.Shown.{status_said}
use Rattle.fl_machine.specs.parts.Hearing.{Hears}
use Rattle.fl_machine.specs.parts.Responding.{Responds}
use Rattle.fl_machine.specs.declared.response.Response.{Response}
use Rattle.fl_machine.specs.declared.response.Response.TheVariants as response
use Rattle.fl_machine.proofs.Statuses.{same_status}

pub not_true : (b : Bool) → (b ≡ true → ⊥) → b ≡ false
not_true true h = absurd (h refl)
not_true false h = refl

-- what was counted fits, and nothing more is
none_more : (old new more : ℕ) → new ≡ min (old + more) most_counted → old ≤ most_counted
    → more ≡ 0
    → new ≡ old
none_more old new more is fits none = omega (arith, is, fits, none)

same_session : {s s' : KeptNode} {a a' : ℕ} {b b' : Bool} → s' ≡ s → a' ≡ a → b' ≡ b
    → ◌≡◌ {A = Session} (record { s = s'; admitted = a'; over = b' })
    (record { s = s; admitted = a; over = b })
same_session p q r = λ i. record { s = p i; admitted = q i; over = r i }

-- the node has its desk still
pub same_desk : {n n' : NodeState} → IsSameNode n n' → IsDeskOf n 1 → IsDeskOf n' 1
same_desk same desk =
    record { first = desk.first; last = omega (arith, same.desks, desk.last) }

-- how the fields of a session change by a line
pub record Changes {K : Type 0} (old new : SessionOver K) (r : Response) (more : ℕ)
    : Type 0 where
  pub settings : new.settings ≡ old.settings
  pub live : old.over ≡ false
  pub fits : old.admitted ≤ most_counted
  pub counted : new.admitted ≡ min (old.admitted + more) most_counted
  pub over : new.over ≡ nat_eq (status_said r) 3

module _ {K : Type 0} (custody : Custody K) (old new : SessionOver K) (bytes : List ℕ)
    (r : Response) (more : ℕ) (changes : Changes old new r more) where
  turned : (k k' : Kept) (ds : List Did) (answer : Answer)
      → Hears old.settings
      (record {
        s = record { node = old.node.node; kept = k };
        admitted = old.admitted;
        over = false;
      })
      bytes ds answer (record { node = new.node.node; kept = k' })
      → AreCounted ds more → new.over ≡ ends answer
      → Turn old.settings (session_with old k) bytes ds answer (session_with new k')
  turned k k' ds answer (Hears.understood l says answers) counted over =
      Turn.understood changes.live (record {
        line = l;
        says = says;
        answered = subst (λ b. AnswersLine old.settings
            (record {
              s = record { node = old.node.node; kept = k };
              admitted = old.admitted;
              over = b;
            }) l ds answer (record { node = new.node.node; kept = k' })) (sym changes.live) answers;
        more = more;
        noted = counted;
        counted = changes.counted;
        over = over;
      })
  turned k k' ds answer (Hears.starved takes same) counted over =
      Turn.starved changes.live takes (record {
        did_none = refl;
        answer_is = refl;
        same = same_session same
            (none_more old.admitted new.admitted more changes.counted changes.fits counted)
            (over ∙ sym changes.live);
      })

  module _ (h : Responds custody old.settings.keys old.node
      (λ s. Hears old.settings (record { s = s; admitted = old.admitted; over = false }) bytes) r
      more new.node) where
    turns : TurnOver custody old bytes h.answer new
    turns =
        record {
          settings = changes.settings;
          honest = h.done.honest;
          comes = λ honest after held.
              let d = h.done.comes honest after held in (
                d.0,
                d.1,
                (
                  d.2.0,
                  turned d.0 after d.2.0 h.answer d.2.1 d.2.2
                      (changes.over ∙ ap (λ s. nat_eq s 3) (same_status h.shows)),
                ),
              );
        }

    -- the answer's text passed, and its status was told
    pub passes_answer : {before after : Option (List ℕ)} {pending rest : List ℕ}
        (number status : ℕ)
        → status ≡ status_said r
        → Passes before after pending (text_of old.settings.keys number h.answer) rest
        → AnswerPasses (MachineTurns custody) number old bytes status new before after pending rest
    passes_answer number status is passed =
        record {
          text = text_of old.settings.keys number h.answer;
          turn = record {
            answer = h.answer;
            turn = turns;
            output_is =
                ap (λ s. record { text = text_of old.settings.keys number h.answer; status = s })
                (is ∙ same_status h.shows);
            cause = λ three. h.cause (same_status h.shows ∙ three);
          };
          passed = passed;
        }

    -- a front of the answer's text was written
    pub cuts_answer : {before after : Option (List ℕ)} {pending : List ℕ} (number : ℕ)
        → Cuts before after pending (text_of old.settings.keys number h.answer)
        → AnswerCuts (MachineTurns custody) number old bytes new before after pending
    cuts_answer number cut =
        record {
          output = output_of old.settings.keys number h.answer;
          turn = record {
            answer = h.answer;
            turn = turns;
            output_is = refl;
            cause = λ three. h.cause (same_status h.shows ∙ three);
          };
          cut = cut;
        }

-- a line that is none of the machine changes nothing
pub bad_changes : {K : Type 0} (x : SessionOver K) → x.over ≡ false → x.admitted ≤ most_counted
    → Changes x x response.Unknown 0
bad_changes x live fits = record {
  settings = refl;
  live = live;
  fits = fits;
  counted = omega (arith, fits);
  over = live;
}
