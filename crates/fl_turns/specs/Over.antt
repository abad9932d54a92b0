-- A session over keepers, with who makes them, and its lines.
use Rattle.std.specs.Prelude.{◌≡◌, [], ℕ, List, refl}
use Rattle.std.specs.Coded.{Coded, code_by, coded×, coded_ℕ, coded_list}
use Rattle.fl_aliases.specs.Table.{Table}
use Rattle.fl_aliases.specs.contracts.target.Target as targets_row
use Rattle.fl_store.specs.Custody.{Custody}
use Rattle.fl_stream.specs.Turns.{LineOutput}
use Rattle.fl_makers.specs.Making.{Making}
use Rattle.fl_calls.specs.Over.{ClusterOver, begun_over as begun_cluster, coded_cluster_over, GoesOn}
use Rattle.fl_turns.specs.Answer.{Answer, status_of}
use Rattle.fl_turns.specs.Failing.{FailsRead}
use Rattle.fl_turns.specs.Run.{output_of}
use Rattle.fl_turns.specs.Turn.{Turn}

-- a world over keepers with their maker, and the aliases that are set
pub record SessionOver (K M : Type 0) : Type 0 where
  pub cluster : ClusterOver K M
  pub aliases : Table

-- before the first line
abbrev pub begun_over : {K M : Type 0} → M → SessionOver K M
begun_over maker = record { cluster = begun_cluster maker; aliases = [] }

-- aliases are stored as a list of their letters and of what they stand for
abbrev pub coded_aliases : Coded Table
coded_aliases = coded_list (coded× (coded_list coded_ℕ) (targets_row.the_row).coded)

-- it is stored as the pair of its fields
abbrev pub coded_session_over : {K M : Type 0} → Coded K → Coded M → Coded (SessionOver K M)
coded_session_over {K} {M} keeper maker =
    code_by (ClusterOver K M × Table) (coded× (coded_cluster_over keeper maker) coded_aliases)
    (λ s. (s.cluster, s.aliases))
    (λ t. record { cluster = t.0; aliases = t.1 })
    (λ _. refl)

-- The line is answered so, with the openings of the maker before: in each world that there may be now, from one that there might
-- have been before.
abbrev pub TurnOver : {K M : Type 0} → Custody K → Making M K → SessionOver K M → List ℕ → Answer → SessionOver K M → Type 0
TurnOver custody making old line answer new =
    GoesOn custody making old.cluster new.cluster
    (λ openings w w'. Turn openings (record { world = w; aliases = old.aliases }) line answer
    (record { world = w'; aliases = new.aliases }))

-- The line of this number has an answer, with this text and status. Where it says that a keeper
-- failed, one did.
pub record TurnsOver {K M : Type 0} (custody : Custody K)
    (making : Making M K) (number : ℕ)
    (old : SessionOver K M) (line : List ℕ) (output : LineOutput) (new : SessionOver K M)
    : Type 0 where
  pub answer : Answer
  pub turn : TurnOver custody making old line answer new
  pub output_is : output ≡ output_of number answer
  pub cause : status_of answer ≡ 3
      → FailsRead custody making old.aliases old.cluster new.cluster line
