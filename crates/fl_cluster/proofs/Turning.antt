-- What a call of the cluster does, said of the lines of a script.
use Rattle.std.proofs.Common.{◌≡◌, ◌∙◌, ◌⊎◌, refl, sym, ap, subst, ℕ, true, List, [], Option, None, Some, inl, inr}
use Rattle.std.proofs.lemmas.List.{append-nil}
use Rattle.fl_aliases.specs.Table.{Table}
use Rattle.fl_aliases.specs.declared.target.Target.{Target}
use Rattle.fl_sink.specs.Sink.{Passes, Cuts}
use Rattle.fl_sink.specs.laws.Passing.{passes_none}
use Rattle.fl_store.specs.Custody.{Custody}
use Rattle.fl_stream.specs.Turns.{AnswerPasses, AnswerCuts}
use Rattle.fl_makers.specs.Making.{Making}
use Rattle.fl_script.specs.Reading.{IsReading, ReadingTakesMemory, SettingTakesMemory, makes}
use Rattle.fl_script.specs.declared.line.Line.{Line}
use Rattle.fl_script.specs.declared.line.Line.TheVariants as line
use Rattle.fl_script.specs.declared.reading.Reading.TheVariants as reading
use Rattle.fl_script.specs.declared.request.Request.{Request}
use Rattle.fl_system.specs.World.{World}
use Rattle.fl_nodes.specs.Goes.{MayBe}
use Rattle.fl_calls.specs.Answer.{shown as shown_of}
use Rattle.fl_calls.specs.Calls.{AsksForUnion, AsksForAudit}
use Rattle.fl_calls.specs.Entering.{Openings}
use Rattle.fl_calls.specs.Over.{ClusterOver, GoesOn}
use Rattle.fl_calls.specs.declared.response.Response.{Response as Said}
use Rattle.fl_turns.specs.Answer.{silence, listed, bad_line, starved_line}
use Rattle.fl_turns.specs.AnswerText.{text_of}
use Rattle.fl_turns.specs.Failing.{FailsRead}
use Rattle.fl_turns.specs.Naming.{renamed}
use Rattle.fl_turns.specs.Over.{SessionOver, TurnOver, TurnsOver}
use Rattle.fl_turns.specs.Run.{output_of}
use Rattle.fl_turns.specs.Session.{Session}
use Rattle.fl_turns.specs.Turn.{AsksNode, AnswersLine, asks, unites, counts, lists}
use Rattle.fl_cluster.specs.Shown.{shown, status_said, made_said}
use Rattle.fl_cluster.specs.parts.Answering.{RespondsTo, Names, NamesOrStarves}
use Rattle.fl_cluster.specs.declared.response.Response.{Response}
use Rattle.fl_cluster.specs.declared.response.Response.TheVariants as response
use Rattle.fl_cluster.proofs.Saying.{same_status, same_made}

-- no bytes pass
pub passes_nothing : (output : Option (List ℕ)) (pending : List ℕ) → Passes output output pending [] pending
passes_nothing output pending = subst (Passes output output pending []) (append-nil pending) (passes_none output pending [])

-- what a line that makes something is answered is no list of aliases
none_listed : {openings : Openings} {old : Session} {l : Line} {table : Table} {w : World} → makes l ≡ true
    → AnswersLine openings old l (listed table) w → ⊥
none_listed made lists = absurd (cc)

module _ {K M : Type 0} (custody : Custody K) (making : Making M K) where
  goes_on_as : (old new : ClusterOver K M) (s t : Openings → World → World → Type 0)
      → ((openings : Openings) (w w' : World) → s openings w w' → t openings w w')
      → GoesOn custody making old new s → GoesOn custody making old new t
  goes_on_as old new s t leads on = record {
    goes = record {
      honest = on.goes.honest;
      comes = λ all after is.
          let before = on.goes.comes all after is in
          (before.0, before.1, leads _ before.0 after before.2);
    };
    makes_less = on.makes_less;
    finds_less = on.finds_less;
    refuses_less = on.refuses_less;
  }

  -- nothing changes
  stays : (over : ClusterOver K M) (step : Openings → World → World → Type 0)
      → ((openings : Openings) (w : World) → MayBe custody over.world w → step openings w w)
      → GoesOn custody making over over step
  stays over step h = record {
    goes = record { honest = λ all. all; comes = λ all after is. (after, is, h _ after is) };
    makes_less = λ number keeper made. made;
    finds_less = λ number k found. found;
    refuses_less = λ number fault why. why;
  }

  pub responds_asked : (old new : ClusterOver K M) (node : ℕ) (request : Request) (said : Said)
      → GoesOn custody making old new
      (λ openings w w'. AsksNode openings w node request (shown_of new.world said) w')
      → RespondsTo custody making old (line.Node node request) (response.Said said) new
  responds_asked old new node request said on =
      goes_on_as old new _ _ (λ openings w w' h aliases. asks h) on

  pub responds_united : (old new : ClusterOver K M) (first second : ℕ) (said : Said)
      → GoesOn custody making old new
      (λ openings w w'. AsksForUnion openings w first second (shown_of new.world said) w')
      → RespondsTo custody making old (line.Union first second) (response.Said said) new
  responds_united old new first second said on =
      goes_on_as old new _ _ (λ openings w w' h aliases. unites h) on

  pub responds_counted : (over : ClusterOver K M) (said : Said)
      → ((w : World) → MayBe custody over.world w → AsksForAudit w (shown_of over.world said) w)
      → RespondsTo custody making over line.Audit (response.Said said) over
  responds_counted over said h = stays over _ (λ openings w is aliases. counts (h w is))

  pub responds_listed : (over : ClusterOver K M)
      → RespondsTo custody making over line.Aliases response.Aliases over
  responds_listed over = stays over _ (λ openings w is aliases. lists)

  -- without an alias all aliases stay
  pub names_none : (old new : SessionOver K M) (l : Line) (r : Response) → new.aliases ≡ old.aliases
      → RespondsTo custody making old.cluster l r new.cluster
      → Names custody making old l None r new
  names_none old new l r same on =
      goes_on_as old.cluster new.cluster _ _
      (λ openings w w' h. record {
        answered = subst (λ table. AnswersLine openings (record { world = w; aliases = table }) l (shown new r) w') same (h new.aliases);
        named = same;
      }) on

  -- what a line that makes something is answered has nothing of the aliases
  apart : (cluster : ClusterOver K M) (l : Line) (r : Response) (before after : Table) → makes l ≡ true
      → (openings : Openings) (w w' : World)
      → AnswersLine openings (record { world = w; aliases = before }) l (shown (record { cluster = cluster; aliases = before }) r) w'
      → AnswersLine openings (record { world = w; aliases = before }) l (shown (record { cluster = cluster; aliases = after }) r) w'
  apart cluster l response.Silence before after made openings w w' h = h
  apart cluster l (response.Said what) before after made openings w w' h = h
  apart cluster l response.Aliases before after made openings w w' h = absurd (none_listed made h)

  -- the alias stands for what the line made
  pub names_some : (old new : SessionOver K M) (l : Line) (alias : List ℕ) (r : Response) (made : Option Target)
      → makes l ≡ true → new.aliases ≡ renamed old.aliases (Some alias) made → made ≡ made_said r
      → RespondsTo custody making old.cluster l r new.cluster
      → Names custody making old l (Some alias) r new
  names_some old new l alias r made makes_it is same on =
      goes_on_as old.cluster new.cluster _ _
      (λ openings w w' h. record {
        answered = apart new.cluster l r old.aliases new.aliases makes_it openings w w' (h old.aliases);
        named = is ∙ ap (renamed old.aliases (Some alias)) (same ∙ sym (same_made new r));
      }) on

  pub turns_quiet : (over : SessionOver K M) (bytes : List ℕ) → IsReading over.aliases bytes reading.Quiet
      → TurnOver custody making over bytes silence over
  turns_quiet over bytes says =
      stays over.cluster _ (λ openings w is. inl (record { reading = reading.Quiet; says = says; answered = (refl, refl) }))

  pub turns_bad : (over : SessionOver K M) (bytes : List ℕ) → IsReading over.aliases bytes reading.Bad
      → TurnOver custody making over bytes bad_line over
  turns_bad over bytes says =
      stays over.cluster _ (λ openings w is. inl (record { reading = reading.Bad; says = says; answered = (refl, refl) }))

  pub turns_starved : (over : SessionOver K M) (bytes : List ℕ)
      → ReadingTakesMemory bytes ⊎ SettingTakesMemory over.aliases bytes
      → TurnOver custody making over bytes starved_line over
  turns_starved over bytes takes =
      stays over.cluster _ (λ openings w is. inr (record { takes = takes; answered = refl; unchanged = refl }))

  pub turns_named : (old new : SessionOver K M) (bytes : List ℕ) (l : Line) (alias : Option (List ℕ)) (r : Response)
      → IsReading old.aliases bytes (reading.Means l alias) → Names custody making old l alias r new
      → TurnOver custody making old bytes (shown new r) new
  turns_named old new bytes l alias r says on =
      goes_on_as old.cluster new.cluster _ _
      (λ openings w w' h. inl (record { reading = reading.Means l alias; says = says; answered = h })) on

  -- where the alias is new there may be no memory for it
  pub turns_placed : (old new : SessionOver K M) (bytes : List ℕ) (l : Line) (alias : List ℕ) (r : Response)
      → IsReading old.aliases bytes (reading.Means l (Some alias))
      → NamesOrStarves custody making old l (Some alias) r new
      → TurnOver custody making old bytes (shown new r) new
  turns_placed old new bytes l alias r says (inl on) = turns_named old new bytes l (Some alias) r says on
  turns_placed old new bytes l alias r says (inr h) =
      rw (h.0, h.1) (turns_starved old bytes
      (inr (record { line = l; alias = alias; says = says; is_new = h.2 })))

  -- the response's text passed, and its status was told
  pub passes_answer : {before after : Option (List ℕ)} {pending rest : List ℕ} (number : ℕ) (old new : SessionOver K M)
      (line : List ℕ) (r : Response) (status : ℕ) → status ≡ status_said r
      → TurnOver custody making old line (shown new r) new
      → (status_said r ≡ 3 → FailsRead custody making old.aliases old.cluster new.cluster line)
      → Passes before after pending (text_of number (shown new r)) rest
      → AnswerPasses (TurnsOver custody making) number old line status new before after pending rest
  passes_answer number old new line r status is turn cause passed = record {
    text = text_of number (shown new r);
    turn = record {
      answer = shown new r;
      turn = turn;
      output_is = rw (is, ← same_status new r) refl;
      cause = λ three. cause (sym (same_status new r) ∙ three);
    };
    passed = passed;
  }

  -- a front of the answer's text was written
  pub cuts_answer : {before after : Option (List ℕ)} {pending : List ℕ} (number : ℕ) (old new : SessionOver K M)
      (line : List ℕ) (r : Response)
      → TurnOver custody making old line (shown new r) new
      → (status_said r ≡ 3 → FailsRead custody making old.aliases old.cluster new.cluster line)
      → Cuts before after pending (text_of number (shown new r))
      → AnswerCuts (TurnsOver custody making) number old line new before after pending
  cuts_answer number old new line r turn cause cut = record {
    output = output_of number (shown new r);
    turn = record {
      answer = shown new r;
      turn = turn;
      output_is = refl;
      cause = λ three. cause (sym (same_status new r) ∙ three);
    };
    cut = cut;
  }
