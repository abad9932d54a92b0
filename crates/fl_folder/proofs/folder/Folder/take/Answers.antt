use Rattle.std.proofs.Common.{◌∙◌, None, Some, option_map, ap, sym, rules}
use Rattle.fl_folder.specs.declared.place.Place.{Place}
use Rattle.fl_folder.proofs.Places.{placed, unplaced}
use Rattle.fl_folder.proofs.folder.Folder.take.Goals as goal

pub returns-in-Some-into_files-clause-opens : goal.returns-in-Some-into_files-clause-opens
returns-in-Some-into_files-clause-opens c =
    let old = c.args.self.now in
    let new = record old { places = c.get_mut.follows.lender c.replace.new.dest } in
    placed old new c.args.path.now None c.replace.new.dest (ap (λ (it : Place). it.files) c.replace.ensures.after ∙ c.opened.ensures)
    ((c.get_mut.follows.holds c.replace.new.dest).3 (search rules))

pub returns-in-None-into_files-clause-same : goal.returns-in-None-into_files-clause-same
returns-in-None-into_files-clause-same c =
    let old = c.args.self.now in
    let new = record old { places = c.get_mut.follows.lender c.replace.new.dest } in
    unplaced old new c.args.path.now
    (placed old new c.args.path.now None c.replace.new.dest (ap (λ (it : Place). it.files) c.replace.ensures.after ∙ c.opened.ensures)
    ((c.get_mut.follows.holds c.replace.new.dest).3 (search rules)))
    (ap (option_map (λ (it : Place). it.files)) (sym c.in-Some.ensures.value)
    ∙ ap (λ (it : Place). Some it.files) (sym c.replace.ensures.value) ∙ ap Some (sym c.in-None-into_files.ensures.same))
