use Rattle.std.proofs.Common.{◌≡◌, ◌∙◌, sym, map, string_bytes}
use Rattle.clap.specs.Words.{fault_of, kind_of}
use Rattle.fl_node_words.specs.declared.words.WordsFault.TheVariants.{Refused}
use Rattle.fl_node_words.specs.Words.{program}
use Rattle.fl_node_words.proofs.OneFault.{one_fault, refused}
use Rattle.fl_node_words.proofs.words.read_words.Goals as goal

pub returns-in-Err-clause-refused : goal.returns-in-Err-clause-refused
returns-in-Err-clause-refused g c = λ err.
    let is : c.told.result ≡ Refused = cc in
    refused (fault_of program (map string_bytes c.args.words.now)) (kind_of c.in-Err.error)
    (one_fault (map string_bytes c.args.words.now)) c.in-Err.ensures.fault (sym c.told.ensures ∙ is)
