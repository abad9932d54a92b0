-- What is told of lines, and its statuses.
use Rattle.std.proofs.Common.{◌≡◌, zero, suc, ◌+◌, ◌-◌, ◌<◌, ◌++◌, ◌∙◌, ◌∷◌, [], ℕ, List, Option, Result, Ok, Err, add-one, ap, append_assoc, arith, drop, get_or, length, max, refl, replicate, sym, take}
use Rattle.std.proofs.lemmas.List.{append-nil, replicate-append-replicate, take_more}
use Rattle.std.proofs.lemmas.List.Concat.{flat_map-append}
use Rattle.std.proofs.Math.Nat.{max-zero, zero-max}
use Rattle.std.specs.Result.{IsErr}
use Rattle.fl_aliases.specs.Table.{Table}
use Rattle.fl_replies.specs.ReplyText.{world_text}
use Rattle.fl_sink.specs.Sink.{Cuts, Passes, Puts}
use Rattle.fl_sink.specs.laws.Passing.{cuts_behind}
use Rattle.fl_sink.specs.laws.Pieces.{flat_map_more, flat_map_at}
use Rattle.fl_system.specs.declared.reply.Reply.{Reply}
use Rattle.fl_system.specs.declared.reply.Reply.TheVariants.{Refused}
use Rattle.fl_calls.specs.Answer.{replied}
use Rattle.fl_calls.specs.declared.response.Response.TheVariants as calls
use Rattle.fl_turns.specs.Answer.{said, status_of}
use Rattle.fl_cluster.specs.Shown.{status_said}
use Rattle.fl_cluster.specs.declared.response.Response.{Response}
use Rattle.fl_cluster.specs.declared.response.Response.TheVariants as response
use Rattle.fl_crew_turns.specs.Batch.{replies_text, worst_reply}
use Rattle.fl_crew_session.specs.Told.{shown}

-- the status of a response is that of what it says
pub same_status : (table : Table) (r : Response) → status_of (shown table r) ≡ status_said r
same_status table (response.Said (calls.Reply (Refused fault))) = refl
same_status table (response.Said (calls.Dropped fault)) = refl
same_status table (response.Said calls.Unknown) = refl
same_status table other = refl

-- the status of a line that is replied this
abbrev pub status_replied : Reply → ℕ
status_replied reply = status_of (said (replied reply))

pub same_reply : (reply : Reply) → status_said (response.Said (calls.Reply reply)) ≡ status_replied reply
same_reply (Refused fault) = refl
same_reply other = refl

max_assoc : (a b c : ℕ) → max (max a b) c ≡ max a (max b c)
max_assoc a b c = omega arith

worst-append : (xs ys : List Reply) → worst_reply (xs ++ ys) ≡ max (worst_reply xs) (worst_reply ys)
worst-append [] ys = sym (zero-max (worst_reply ys))
worst-append (x ∷ xs) ys =
    ap (max (status_replied x)) (worst-append xs ys) ∙ sym (max_assoc (status_replied x) (worst_reply xs) (worst_reply ys))

-- one reply more
pub worst_more : (xs : List Reply) (i : ℕ) (d : Reply) → i < length xs
    → worst_reply (take (i + 1) xs) ≡ max (worst_reply (take i xs)) (status_replied (get_or xs i d))
worst_more xs i d inside =
    ap worst_reply (take_more xs i d inside) ∙ worst-append (take i xs) (get_or xs i d ∷ [])
    ∙ ap (max (worst_reply (take i xs))) (max-zero (status_replied (get_or xs i d)))

pub text_more : (xs : List Reply) (i : ℕ) (d : Reply) → i < length xs
    → replies_text (take (i + 1) xs) ≡ replies_text (take i xs) ++ world_text (get_or xs i d)
text_more xs i d inside = flat_map_more world_text xs i d inside

pub text_at : (xs : List Reply) (i : ℕ) (d : Reply) → i < length xs
    → replies_text xs ≡ replies_text (take i xs) ++ (world_text (get_or xs i d) ++ replies_text (drop (i + 1) xs))
text_at xs i d inside = flat_map_at world_text xs i d inside

max_same : (a : ℕ) → max a a ≡ a
max_same a = omega arith

worst_copies : (reply : Reply) (n : ℕ) → worst_reply (replicate (suc n) reply) ≡ status_replied reply
worst_copies reply zero = max-zero (status_replied reply)
worst_copies reply (suc n) =
    ap (max (status_replied reply)) (worst_copies reply n) ∙ max_same (status_replied reply)

-- one refusal more
pub worst_refusals : (reply : Reply) (n : ℕ) → worst_reply (replicate (n + 1) reply) ≡ status_replied reply
worst_refusals reply n = rw add-one (worst_copies reply n)

text_copies : (reply : Reply) (m n : ℕ)
    → replies_text (replicate (m + n) reply) ≡ replies_text (replicate m reply) ++ replies_text (replicate n reply)
text_copies reply m n =
    ap replies_text (sym (replicate-append-replicate m n reply))
    ∙ flat_map-append world_text (replicate m reply) (replicate n reply)

pub text_refusals : (reply : Reply) (n : ℕ)
    → replies_text (replicate (n + 1) reply) ≡ replies_text (replicate n reply) ++ world_text reply
text_refusals reply n =
    text_copies reply n 1 ∙ ap (λ t. replies_text (replicate n reply) ++ t) (append-nil (world_text reply))

pub refusals_at : (reply : Reply) (i count : ℕ) → i < count
    → replies_text (replicate count reply)
    ≡ replies_text (replicate i reply) ++ (world_text reply ++ replies_text (replicate (count - (i + 1)) reply))
refusals_at reply i count inside =
    let split : count ≡ i + 1 + (count - (i + 1)) = omega arith in
    let rest = replies_text (replicate (count - (i + 1)) reply) in
    ap (λ n. replies_text (replicate n reply)) split ∙ text_copies reply (i + 1) (count - (i + 1))
    ∙ ap (λ t. t ++ rest) (text_refusals reply i)
    ∙ append_assoc (replies_text (replicate i reply)) (world_text reply) rest

-- a text passed, and the one behind it was cut
pub puts_behind : {T E : Type 0} {a b c : Option (List ℕ)} {pending text rest more after : List ℕ} {r : Result T E}
    → Passes a b pending text rest → Cuts b c rest more → IsErr r → Puts a c pending (text ++ more) after r
puts_behind {r = Ok x} p q err = cc
puts_behind {r = Err e} p q err = record { is = cuts_behind p q }
