use Rattle.fl_replica.proofs.Turning.{admits}
use Rattle.fl_replica.proofs.writing.fresh_reader.Goals as goal

pub reader-requires : goal.reader-requires
reader-requires c = admits
