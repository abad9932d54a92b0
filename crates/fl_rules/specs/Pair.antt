-- When a message may go from one endpoint to another.
use Rattle.std.specs.Prelude.{◌≡◌, true, false}
use Rattle.fl_labels.specs.declared.name.Name.{Name}
use Rattle.fl_labels.specs.Name.{name_cmp}
use Rattle.fl_labels.specs.SetBy.{In}
use Rattle.fl_labels.specs.Found.{Within, IsLeastOutside}
use Rattle.fl_rules.specs.declared.endpoint.Mode.{Mode}
use Rattle.fl_rules.specs.declared.pair.EndRef.{EndRef}
use Rattle.fl_rules.specs.declared.pair.PairFault.{PairFault}
use Rattle.fl_rules.specs.declared.pair.PairFault.TheVariants.{NotWritable, NotReadable, Secrecy, Integrity}
use Rattle.fl_rules.specs.declared.labels.Labels.{Labels}
use Rattle.fl_rules.specs.Labels.{sets_of}
use Rattle.fl_rules.specs.Endpoint.{reads, writes}

-- an endpoint, with its labels as sets
pub record End : Type 0 where
  pub mode : Mode
  pub labels : Labels

abbrev pub end_of : EndRef → End
end_of endpoint = record { mode = endpoint.mode; labels = sets_of endpoint.labels }

-- a message may leave the one and enter the other, keeps all secrecy and gains no integrity
pub record SafePair (sender receiver : End) : Type 0 where
  pub writable : writes sender.mode ≡ true
  pub readable : reads receiver.mode ≡ true
  pub secrecy : Within (In sender.labels.secrecy) (In receiver.labels.secrecy)
  pub integrity : Within (In receiver.labels.integrity) (In sender.labels.integrity)

-- the first that is wanting for that
pub data PairFails (sender receiver : End) : PairFault → Type 0 where
  not_writable : writes sender.mode ≡ false → PairFails sender receiver NotWritable
  not_readable : writes sender.mode ≡ true → reads receiver.mode ≡ false → PairFails sender receiver NotReadable
  secrecy : {tag : Name} → writes sender.mode ≡ true → reads receiver.mode ≡ true
      → IsLeastOutside name_cmp (In sender.labels.secrecy) (In receiver.labels.secrecy) tag
      → PairFails sender receiver (Secrecy tag)
  integrity : {tag : Name} → writes sender.mode ≡ true → reads receiver.mode ≡ true
      → Within (In sender.labels.secrecy) (In receiver.labels.secrecy)
      → IsLeastOutside name_cmp (In receiver.labels.integrity) (In sender.labels.integrity) tag
      → PairFails sender receiver (Integrity tag)
