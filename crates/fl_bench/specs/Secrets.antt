-- What is kept of secrets.
use Rattle.sha2.specs.Sha256.{sha256}
use Rattle.sha2.proofs.Facts256.{length-sha256}
use Rattle.fl_ops.specs.declared.digest.Digest.{Digest}
use Rattle.fl_jobs.specs.declared.secret.Secret.{Secret}

-- the digest of a secret
abbrev pub digest_of : Secret → Digest
digest_of secret = record { bytes = sha256 secret.bytes; sized = length-sha256 secret.bytes }
