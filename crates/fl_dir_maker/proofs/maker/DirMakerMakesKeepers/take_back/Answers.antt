use Rattle.fl_dir_maker.proofs.maker.DirMakerMakesKeepers.take_back.Goals as goal

pub returns-then-not-was_told : goal.returns-then-not-was_told
returns-then-not-was_told g c =
    rw c.was_told.ensures (record { makes = λ n k h. h; finds = λ n k h. h; unmade = λ n f h. h; refuses = λ n f h. h })

pub returns : goal.returns
returns g c =
    rw c.was_told.ensures (record { makes = λ n k h. h; finds = λ n k h. h; unmade = λ n f h. h; refuses = λ n f h. h })
