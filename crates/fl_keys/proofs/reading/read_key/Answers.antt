use Rattle.std.proofs.Common.{ap}
use Rattle.fl_keys.proofs.Texts.{all_spell, front_read, none_spells}
use Rattle.fl_keys.proofs.reading.read_key.Goals as goal

pub returns-in-Some-clause-key : goal.returns-in-Some-clause-key
returns-in-Some-clause-key g c =
    let front = front_read (g.R.Read.remaining c.args.input) (g.R.Read.remaining c.take-front.result.inner) c.take-front.result.limit
    c.new-text.result.items c.read_to_end.new.buf.items c.deref.result.now
    (ap g.R.Read.remaining c.take-front.ensures.inner) c.take-front.ensures.limit c.new-text.ensures.items c.deref.ensures.value c.in-Ok.ensures.bytes in
    all_spell (g.R.Read.remaining c.args.input) c.deref.result.now c.in-Some.key.bytes front c.in-Some.ensures.spells

pub returns-in-Ok-clause-none : goal.returns-in-Ok-clause-none
returns-in-Ok-clause-none g c = λ is.
    let front = front_read (g.R.Read.remaining c.args.input) (g.R.Read.remaining c.take-front.result.inner) c.take-front.result.limit
    c.new-text.result.items c.read_to_end.new.buf.items c.deref.result.now
    (ap g.R.Read.remaining c.take-front.ensures.inner) c.take-front.ensures.limit c.new-text.ensures.items c.deref.ensures.value c.in-Ok.ensures.bytes in
    none_spells (g.R.Read.remaining c.args.input) c.deref.result.now front c.in-None.ensures.spells
