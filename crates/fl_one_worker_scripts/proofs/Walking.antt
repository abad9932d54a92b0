-- All lines of a script over crews of one worker, and the same script without workers.
use Rattle.std.proofs.Common.{◌≡◌, ◌∙◌, ◌+◌, ◌++◌, ◌∷◌, [], ℕ, List, length, max}
use Rattle.std.proofs.Common.{append_assoc, append-nil, length-append}
use Rattle.std.proofs.Common.{sym, ap, subst, arith}
use Rattle.std.specs.List.{All, flat_map}
use Rattle.std.proofs.lemmas.List.Elements.{All-append, All-head, All-tail}
use Rattle.fl_aliases.specs.Table.{Table}
use Rattle.fl_calls.specs.Over.{openings_of}
use Rattle.fl_crew_calls.specs.Over.{CrewsOver}
use Rattle.fl_crew_turns.specs.Answered.{CrewRun, Written, answers_in}
use Rattle.fl_crew_turns.specs.Batch.{EndsBatch, replies_text, worst_reply}
use Rattle.fl_crew_turns.specs.Session.{CrewSession}
use Rattle.fl_makers.specs.Making.{Making}
use Rattle.fl_store.specs.Custody.{Custody}
use Rattle.fl_stream.specs.Turns.{texts, worst}
use Rattle.fl_system.specs.declared.reply.Reply.{Reply}
use Rattle.fl_system.specs.World.{World}
use Rattle.fl_turn_laws.specs.Certain.{IsSure}
use Rattle.fl_turns.specs.Answer.{Answer, status_of}
use Rattle.fl_turns.specs.AnswerText.{text_of}
use Rattle.fl_turns.specs.Run.{Run, outputs_from}
use Rattle.fl_turns.specs.Session.{Session}
use Rattle.fl_one_worker_calls.specs.Crews.{IsWorldOf}
use Rattle.fl_one_worker_scripts.specs.Alike.{calls_well}
use Rattle.fl_one_worker_scripts.specs.Shared.{IsShared}
use Rattle.fl_one_worker_scripts.specs.Written.{replied_all, texts_from, worst_of}
use Rattle.fl_one_worker_scripts.proofs.Delivering.{PacketLeads}
use Rattle.fl_one_worker_scripts.proofs.Lists.{all_left, all_right, outputs_on, run_each, run_on, texts_alone, texts_on, worst_alone, worst_on}
use Rattle.fl_one_worker_scripts.proofs.Opening.{CrewOpens, ToldOf}
use Rattle.fl_one_worker_scripts.proofs.Restarting.{CrewRestarts}
use Rattle.fl_one_worker_scripts.proofs.Running.{JobsLead, Stands, Turned, batch_ends, turned}

module _ {K M : Type 0} (custody : Custody K) (making : Making M K) (told : ToldOf making)
    (crew_opens : CrewOpens K) (crew_restarts : CrewRestarts K) (jobs_lead : JobsLead M custody)
    (packet_leads : PacketLeads M custody) (maker : M) where
  abbrev pub Crews : Type 0
  Crews = CrewSession (CrewsOver K M)

  abbrev pub StandsSo : Crews → World → List (List ℕ) → Type 0
  StandsSo = Stands custody making told crew_opens crew_restarts jobs_lead packet_leads maker

  abbrev pub plain : World → Table → Session
  plain w table = record { world = w; aliases = table }

  -- the lines are answered so without workers, the first of them being the number-th
  pub record Walked (number : ℕ) (s : Crews) (w : World) (lines : List (List ℕ))
      (text : List ℕ) (status : ℕ) (end : Crews) : Type 0 where
    pub world : World
    pub answers : List Answer
    pub run : Run (openings_of custody making maker) (plain w s.aliases) lines answers
        (plain world end.aliases)
    pub text_is : text ≡ texts (outputs_from number answers)
    pub status_is : status ≡ worst (outputs_from number answers)
    pub sure : All IsSure answers
    pub stands : IsWorldOf end.crews world

  -- the last batch
  ends_walk : (number : ℕ) (s end : Crews) (w : World) (waiting : List (List ℕ))
      (replies : List Reply) → StandsSo s w waiting
      → EndsBatch (calls_well custody making) s replies end → All IsSure (replied_all replies)
      → Walked number s w waiting (replies_text replies) (worst_reply replies) end
  ends_walk number s end w waiting replies stands ends sure =
      let ended =
      batch_ends custody making told crew_opens crew_restarts jobs_lead packet_leads maker s end w
      waiting replies stands ends sure in
      record {
        world = ended.world;
        answers = replied_all replies;
        run = ended.run;
        text_is = sym (append-nil (replies_text replies)) ∙ texts_alone number replies;
        status_is = (let same : worst_reply replies ≡ max (worst_reply replies) 0 =
            omega arith in same)
            ∙ worst_alone number replies;
        sure = sure;
        stands = ended.ties.stands;
      }

  -- what a line does, and then the lines behind it
  one_more : (number : ℕ) (s mid end : Crews) (w : World) (waiting later : List (List ℕ))
      (line : List ℕ) (replies : List Reply) (answer : Answer) (text : List ℕ) (status : ℕ)
      (one : Turned custody making told crew_opens crew_restarts jobs_lead packet_leads maker s w
      waiting line replies answer mid)
      → Walked (number + length one.done) mid one.world (one.still ++ later) text status end
      → Walked number s w (waiting ++ line ∷ later)
      ((replies_text replies ++ text_of (number + length waiting) answer) ++ text)
      (max (max (worst_reply replies) (status_of answer)) status) end
  one_more number s mid end w waiting later line replies answer text status one rest =
      let each = run_each _ _ _ one.done one.answers one.run in
      let outputs : outputs_from number (one.answers ++ rest.answers)
      ≡ outputs_from number one.answers ++ outputs_from (number + length one.done) rest.answers =
      outputs_on number one.answers rest.answers
      ∙ ap (λ n. outputs_from number one.answers ++ outputs_from (number + n) rest.answers) each in
      record {
        world = rest.world;
        answers = one.answers ++ rest.answers;
        run = subst (λ l. Run (openings_of custody making maker) (plain w s.aliases) l
            (one.answers ++ rest.answers) (plain rest.world end.aliases))
            (sym (append_assoc one.done one.still later)
            ∙ (ap (λ l. l ++ later) (sym one.split) ∙ append_assoc waiting (line ∷ []) later))
            (run_on (openings_of custody making maker) (plain w s.aliases)
            (plain one.world mid.aliases) (plain rest.world end.aliases) one.done
            (one.still ++ later) one.answers rest.answers one.run rest.run);
        text_is = sym (ap texts outputs
            ∙ (texts_on (outputs_from number one.answers)
            (outputs_from (number + length one.done) rest.answers)
            ∙ (λ i. sym (one.text_is number) i ++ sym rest.text_is i)));
        status_is = sym (ap worst outputs
            ∙ (worst_on (outputs_from number one.answers)
            (outputs_from (number + length one.done) rest.answers)
            ∙ (λ i. max (sym (one.status_is number) i) (sym rest.status_is i))));
        sure = All-append IsSure one.answers rest.answers one.sure rest.sure;
        stands = rest.stands;
      }

  -- the numbers go on behind a line
  goes_on : (number count done still : ℕ) → count + 1 ≡ done + still
      → (number + done) + still ≡ (number + count) + 1
  goes_on number count done still split = omega (arith, split)

  -- all lines, and then the batch that is held behind the last of them
  pub walk : (number : ℕ) (s between end : Crews) (w : World) (waiting lines : List (List ℕ))
      (written : List Written) (replies : List Reply) → StandsSo s w waiting → All IsShared lines
      → CrewRun (calls_well custody making) s lines written between
      → EndsBatch (calls_well custody making) between replies end
      → All IsSure (flat_map answers_in written ++ replied_all replies)
      → Walked number s w (waiting ++ lines)
      (texts_from (number + length waiting) written ++ replies_text replies)
      (max (worst_of written) (worst_reply replies)) end
  walk number s between end w waiting [] [] replies stands shared run ends sure =
      subst (λ l. Walked number s w l (replies_text replies) (max 0 (worst_reply replies)) end)
      (sym (append-nil waiting))
      (subst (λ n. Walked number s w waiting (replies_text replies) n end)
      (let same : worst_reply replies ≡ max 0 (worst_reply replies) = omega arith in same)
      (ends_walk number s end w waiting replies stands
      (subst (λ b. EndsBatch (calls_well custody making) b replies end) run ends) sure))
  walk number s between end w waiting [] (written ∷ later) replies stands shared run ends sure =
      absurd run
  walk number s between end w waiting (line ∷ lines) [] replies stands shared run ends sure =
      absurd run
  walk number s between end w waiting (line ∷ lines) (written ∷ later) replies stands shared
      (mid, turn, run) ends sure =
      let first : All IsSure (answers_in written) =
      all_left IsSure (answers_in written) (flat_map answers_in later)
      (all_left IsSure (answers_in written ++ flat_map answers_in later)
      (replied_all replies) sure) in
      let behind : All IsSure (flat_map answers_in later ++ replied_all replies) =
      all_right IsSure (answers_in written) (flat_map answers_in later ++ replied_all replies)
      (subst (All IsSure)
      (append_assoc (answers_in written) (flat_map answers_in later) (replied_all replies)) sure) in
      let one =
      turned custody making told crew_opens crew_restarts jobs_lead packet_leads maker s mid w
      waiting line written.replies written.answer stands
      (All-head IsShared line lines shared) turn first in
      let rest =
      walk (number + length one.done) mid between end one.world one.still lines later replies
      one.stands (All-tail IsShared line lines shared) run ends behind in
      let counts : length waiting + 1 ≡ length one.done + length one.still =
      sym (length-append waiting (line ∷ [])) ∙ (ap length one.split ∙ length-append one.done
      one.still) in
      let numbered =
      subst (λ n. Walked (number + length one.done) mid one.world (one.still ++ lines)
      (texts_from n later ++ replies_text replies)
      (max (worst_of later) (worst_reply replies)) end)
      (goes_on number (length waiting) (length one.done) (length one.still) counts) rest in
      let all =
      one_more number s mid end w waiting lines line written.replies written.answer _ _ one
      numbered in
      subst (λ t. Walked number s w (waiting ++ line ∷ lines) t
      (max (worst_of (written ∷ later)) (worst_reply replies)) end)
      (sym (append_assoc
      (replies_text written.replies ++ text_of (number + length waiting) written.answer)
      (texts_from (number + length waiting + 1) later) (replies_text replies)))
      (subst (λ n. Walked number s w (waiting ++ line ∷ lines)
      ((replies_text written.replies ++ text_of (number + length waiting) written.answer)
      ++ (texts_from (number + length waiting + 1) later ++ replies_text replies)) n end)
      (max_assoc (max (worst_reply written.replies) (status_of written.answer)) (worst_of later)
      (worst_reply replies)) all)
    where
      max_assoc : (a b c : ℕ) → max a (max b c) ≡ max (max a b) c
      max_assoc a b c = omega arith
