-- Words spell one line at most.
use Rattle.std.proofs.Common.{◌≡◌, ◌∙◌, ap, sym, refl, Bool, true, false, true≢false, nat_eq, List, [], ◌∷◌, codes, rules}
use Rattle.std.specs.Cmp.Lexicographic.{pointwise}
use Rattle.std.specs.List.{list_any}
use Rattle.fl_jobs.specs.declared.job.Act.TheVariants.{Order as Orders}
use Rattle.fl_jobs.specs.declared.job.Job.{Job}
use Rattle.fl_jobs.specs.declared.job.Job.TheVariants.{By}
use Rattle.fl_labels.specs.Words.{IsNumber}
use Rattle.fl_aliases.specs.Words.{Word}
use Rattle.fl_script.specs.Grammar.{Is, Matches, job_forms, request_forms, forms, Spells}
use Rattle.fl_script.specs.Words.{IsBytesWord}
use Rattle.fl_script.specs.declared.line.Line.{Line}
use Rattle.fl_script.specs.declared.line.Line.TheVariants.{Node as OfNode, Union, Audit, Aliases}
use Rattle.fl_script.specs.declared.request.Request.{Request}
use Rattle.fl_script.specs.declared.request.Request.TheVariants.{Job as OfJob, Begin, Deliver, BeginDeliver, Tell, Save, Publish, Cancel, Restart, Text, Check}
use Rattle.fl_script.specs.laws.Agreement.{Agree, agree, turned}
use Rattle.fl_script.specs.laws.JobKinds.{Kind, kind_of}
use Rattle.fl_script.specs.laws.JobKinds.Kind.{proc, tag, group, put, make_login, open_group, relabel, ask, spawn, exit, drop, enter, emit, opens, tune, close, send, take, member, arrive}
use Rattle.fl_script.specs.laws.OneWord.{same_node, same_name, same_pid, same_cap, same_policy, same_side, same_label, same_caps, same_secret, same_bytes, same_endpoint, same_mode, same_packet, same_message, same_given, no_node}

-- one job of each kind, and none of two kinds, for their verbs differ
pub one_of : {a b : Job} → Kind a → Kind b → Agree (job_forms a) (job_forms b) → a ≡ b
one_of proc proc g = refl
one_of (tag p x) (tag q y) g = let e = same_pid p q g.1.0 in let f = same_policy x y g.1.1.0 in cc
one_of (group p) (group q) g = let e = same_pid p q g.1.0 in cc
one_of (put p x c) (put q y d) g = let e = same_pid p q g.1.0 in let f = same_name x y g.1.1.0 in let h = same_cap c d g.1.1.1.0 in cc
one_of (make_login p c x) (make_login q d y) g = let e = same_pid p q g.1.0 in let f = same_cap c d g.1.1.0 in let h = same_secret x y g.1.1.1.0 in cc
one_of (open_group p x) (open_group q y) g = let e = same_pid p q g.1.0 in let f = same_name x y g.1.1.0 in cc
one_of (relabel p x l) (relabel q y m) g = let e = same_pid p q g.1.0 in let f = same_side x y g.1.1.0 in let h = same_label l m g.1.1.1.0 in cc
one_of (ask p c) (ask q d) g = let e = same_pid p q g.1.0 in let f = same_cap c d g.1.1.0 in cc
one_of (spawn p c) (spawn q d) g = let e = same_pid p q g.1.0 in let f = same_caps c d g.1.1.0 in cc
one_of (exit p) (exit q) g = let e = same_pid p q g.1.0 in cc
one_of (drop p c) (drop q d) g = let e = same_pid p q g.1.0 in let f = same_cap c d g.1.1.0 in cc
one_of (enter p n x) (enter q m y) g = let e = same_pid p q g.1.0 in let f = same_name n m g.1.1.0 in let h = same_secret x y g.1.1.1.0 in cc
one_of (emit p x) (emit q y) g = let e = same_pid p q g.1.0 in let f = same_bytes x y g.1.1.0 in cc
one_of (opens p x l) (opens q y m) g = let e = same_pid p q g.1.0 in let f = same_mode x y g.1.1.0 in let h = same_given l m g.1.1.1.0 g.1.1.1.1.0 in cc
one_of (tune p x l) (tune q y m) g = let e = same_pid p q g.1.0 in let f = same_endpoint x y g.1.1.0 in let h = same_given l m g.1.1.1.0 g.1.1.1.1.0 in cc
one_of (close p x) (close q y) g = let e = same_pid p q g.1.0 in let f = same_endpoint x y g.1.1.0 in cc
one_of (send p x r y m) (send q z s w n) g =
    let e = same_pid p q g.1.0 in
    let f = same_endpoint x z g.1.1.0 in
    let h = same_pid r s g.1.1.1.0 in
    let i = same_endpoint y w g.1.1.1.1.0 in
    let j = same_message m n g.1.1.1.1.1.0 g.1.1.1.1.1.1.0 in cc
one_of (take p) (take q) g = let e = same_pid p q g.1.0 in cc
one_of (arrive a) (arrive b) g = absurd (g.0.left)
one_of (member r c) (member s d) g = let e = same_cap r s g.1.0 in let f = same_cap c d g.1.1.0 in cc
one_of k l g = absurd (search (rules, g.0.left, g.0.right))

-- the word is the verb of a job
abbrev pub is_job_verb : Word → Bool
is_job_verb word = list_any (λ text. pointwise nat_eq text word)
    (codes "proc" ∷ codes "tag" ∷ codes "group" ∷ codes "put" ∷ codes "make-login" ∷ codes "open-group" ∷ codes "label" ∷ codes "ask" ∷ codes "spawn" ∷ codes "exit"
    ∷ codes "drop" ∷ codes "enter" ∷ codes "emit" ∷ codes "open" ∷ codes "tune" ∷ codes "close" ∷ codes "send" ∷ codes "take" ∷ codes "member" ∷ [])

-- what is not spells none
pub not_job : (verb : Word) → is_job_verb verb ≡ false → {job : Job} → Kind job → (ps : List (Word → Type 0)) → Agree (Is verb ∷ ps) (job_forms job) → ⊥
not_job verb none (arrive d) ps g = absurd (g.0.right)
not_job verb none proc ps g = true≢false (ap is_job_verb (sym g.0.right ∙ g.0.left) ∙ none)
not_job verb none k ps g = true≢false (ap is_job_verb (sym g.0.right ∙ g.0.left) ∙ none)

-- so it is not the first of the words of a job
pub no_verb : (verb : Word) → is_job_verb verb ≡ false → {job : Job} → Kind job → (words : List Word) → Matches (job_forms job) (verb ∷ words) → ⊥
no_verb verb none (arrive d) words s = absurd (s.0)
no_verb verb none proc words s = true≢false (ap is_job_verb (sym s.0) ∙ none)
no_verb verb none k words s = true≢false (ap is_job_verb (sym s.0) ∙ none)

-- one request of each kind, and none of two kinds
pub one_request : (a b : Request) → Agree (request_forms a) (request_forms b) → a ≡ b
one_request (OfJob a) (OfJob b) g = ap OfJob (one_of (kind_of a) (kind_of b) g)
one_request (Begin p order) (Begin q other) g = let e = one_of (kind_of (By p (Orders order))) (kind_of (By q (Orders other))) g.1 in cc
one_request (Deliver k) (Deliver l) g = ap Deliver (same_packet k l g.1.0)
one_request (BeginDeliver k) (BeginDeliver l) g = ap BeginDeliver (same_packet k l g.1.1.0)
one_request Tell Tell g = refl
one_request Save Save g = refl
one_request Publish Publish g = refl
one_request Cancel Cancel g = refl
one_request (Restart false) (Restart false) g = refl
one_request (Restart true) (Restart true) g = refl
one_request Text Text g = refl
one_request (Check x) (Check y) g = ap Check (same_bytes x y g.1.0)
one_request (Restart false) (Restart true) g = absurd (g.1)
one_request (Restart true) (Restart false) g = absurd (g.1)
one_request (Begin p order) (BeginDeliver k) g = absurd (not_job (codes "deliver") refl (kind_of (By p (Orders order))) (IsNumber k ∷ []) (turned _ _ g.1))
one_request (BeginDeliver k) (Begin p order) g = absurd (not_job (codes "deliver") refl (kind_of (By p (Orders order))) (IsNumber k ∷ []) g.1)
one_request (Begin p order) (OfJob job) g = absurd (not_job (codes "begin") refl (kind_of job) (job_forms (By p (Orders order))) g)
one_request (OfJob job) (Begin p order) g = absurd (not_job (codes "begin") refl (kind_of job) (job_forms (By p (Orders order))) (turned _ _ g))
one_request (Deliver k) (OfJob job) g = absurd (not_job (codes "deliver") refl (kind_of job) (IsNumber k ∷ []) g)
one_request (OfJob job) (Deliver k) g = absurd (not_job (codes "deliver") refl (kind_of job) (IsNumber k ∷ []) (turned _ _ g))
one_request (BeginDeliver k) (OfJob job) g = absurd (not_job (codes "begin") refl (kind_of job) (Is (codes "deliver") ∷ IsNumber k ∷ []) g)
one_request (OfJob job) (BeginDeliver k) g = absurd (not_job (codes "begin") refl (kind_of job) (Is (codes "deliver") ∷ IsNumber k ∷ []) (turned _ _ g))
one_request Tell (OfJob job) g = absurd (not_job (codes "tell") refl (kind_of job) [] g)
one_request (OfJob job) Tell g = absurd (not_job (codes "tell") refl (kind_of job) [] (turned _ _ g))
one_request Save (OfJob job) g = absurd (not_job (codes "save") refl (kind_of job) [] g)
one_request (OfJob job) Save g = absurd (not_job (codes "save") refl (kind_of job) [] (turned _ _ g))
one_request Publish (OfJob job) g = absurd (not_job (codes "publish") refl (kind_of job) [] g)
one_request (OfJob job) Publish g = absurd (not_job (codes "publish") refl (kind_of job) [] (turned _ _ g))
one_request Cancel (OfJob job) g = absurd (not_job (codes "cancel") refl (kind_of job) [] g)
one_request (OfJob job) Cancel g = absurd (not_job (codes "cancel") refl (kind_of job) [] (turned _ _ g))
one_request (Restart false) (OfJob job) g = absurd (not_job (codes "restart") refl (kind_of job) [] g)
one_request (OfJob job) (Restart false) g = absurd (not_job (codes "restart") refl (kind_of job) [] (turned _ _ g))
one_request (Restart true) (OfJob job) g = absurd (not_job (codes "restart") refl (kind_of job) (Is (codes "kept") ∷ []) g)
one_request (OfJob job) (Restart true) g = absurd (not_job (codes "restart") refl (kind_of job) (Is (codes "kept") ∷ []) (turned _ _ g))
one_request Text (OfJob job) g = absurd (not_job (codes "text") refl (kind_of job) [] g)
one_request (OfJob job) Text g = absurd (not_job (codes "text") refl (kind_of job) [] (turned _ _ g))
one_request (Check bytes) (OfJob job) g = absurd (not_job (codes "check") refl (kind_of job) (IsBytesWord bytes ∷ []) g)
one_request (OfJob job) (Check bytes) g = absurd (not_job (codes "check") refl (kind_of job) (IsBytesWord bytes ∷ []) (turned _ _ g))
one_request a b g = absurd (search (rules, g.0.left, g.0.right))

-- something is asked
no_alone : {job : Job} → Kind job → Agree [] (job_forms job) → ⊥
no_alone proc g = g
no_alone k g = absurd g

no_request : (request : Request) → Agree [] (request_forms request) → ⊥
no_request (OfJob job) g = no_alone (kind_of job) g
no_request (Restart true) g = absurd g
no_request (Restart false) g = absurd g
no_request request g = absurd g

one_form : (a b : Line) → Agree (forms a) (forms b) → a ≡ b
one_form (OfNode n a) (OfNode m b) g = let e = same_node n m g.0 in let f = one_request a b g.1 in cc
one_form (Union a b) (Union c d) g = let e = same_node a c g.1.0 in let f = same_node b d g.1.1.0 in cc
one_form Audit Audit g = refl
one_form Aliases Aliases g = refl
one_form (Union a b) (OfNode n request) g = absurd (no_node n g.0.word g.0.right g.0.left)
one_form (OfNode n request) (Union a b) g = absurd (no_node n g.0.word g.0.left g.0.right)
one_form Audit (OfNode n request) g = absurd (no_request request g.1)
one_form (OfNode n request) Audit g = absurd (no_request request (turned _ _ g.1))
one_form Aliases (OfNode n request) g = absurd (no_request request g.1)
one_form (OfNode n request) Aliases g = absurd (no_request request (turned _ _ g.1))
one_form Audit (Union a b) g = absurd (g.1)
one_form (Union a b) Audit g = absurd (g.1)
one_form Aliases (Union a b) g = absurd (g.1)
one_form (Union a b) Aliases g = absurd (g.1)
one_form Audit Aliases g = absurd (search (rules, g.0.left, g.0.right))
one_form Aliases Audit g = absurd (search (rules, g.0.left, g.0.right))

pub one_line : (a b : Line) (words : List Word) → Spells a words → Spells b words → a ≡ b
one_line a b words s t = one_form a b (agree (forms a) (forms b) words s t)
