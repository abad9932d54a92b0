-- A process that is over says nothing.
use Rattle.std.proofs.Common.{◌≡◌, ℕ, true, [], refl, arith}
use Rattle.fl_store.specs.Custody.{Custody}
use Rattle.fl_stream.specs.Turns.{StaysSilent}
use Rattle.fl_machine_turns.specs.Answer.{silence}
use Rattle.fl_machine_turns.specs.Over.{MachineTurns, SessionOver}
use Rattle.fl_machine_turns.specs.Turn.{Turn}

no_three : ◌≡◌ {A = ℕ} 0 3 → ⊥
no_three e = omega (arith, e)

pub stays_silent : {K : Type 0} (custody : Custody K)
    → StaysSilent (MachineTurns custody) (λ (s : SessionOver K). s.over ≡ true)
stays_silent custody number state line over =
    record {
      answer = silence;
      turn = record {
        settings = refl;
        honest = λ h. h;
        comes = λ h after held. (
          after,
          held,
          (
            [],
            Turn.is_over over (record { did_none = refl; answer_is = refl; same = refl }),
          ),
        );
      };
      output_is = refl;
      cause = λ three. absurd (no_three three);
    }
