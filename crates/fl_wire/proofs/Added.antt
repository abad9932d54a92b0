-- One operation more, from its numbers and its body.
use Rattle.std.proofs.Common.{◌≡◌, ℕ, ◌+◌, ◌<◌, ◌≤◌, true, List, [], ◌∷◌, ◌++◌, length, take, drop, refl, sym, ap, subst, ◌∙◌, arith, append_assoc, length-append}
use Rattle.std.specs.Int.{w32, to_be_bytes}
use Rattle.std.specs.Cmp.Lexicographic.{slice_cmp}
use Rattle.std.specs.Ordering.{nat_cmp, is_lt}
use Rattle.std.proofs.lemmas.List.{take-append-drop, drop-drop}
use Rattle.fl_labels.specs.declared.name.Name.{Name}
use Rattle.fl_labels.specs.declared.cap.Cap.{Cap}
use Rattle.fl_labels.specs.Cap.{cap_name}
use Rattle.fl_labels.specs.Name.{name_cmp}
use Rattle.fl_ops.specs.declared.digest.Digest.{Digest}
use Rattle.fl_ops.specs.declared.op.Op.{Op}
use Rattle.fl_ops.specs.declared.op.Body.TheVariants.{MakeTag, Put, MakeLogin, Open}
use Rattle.fl_ops.specs.declared.op.Policy.{Policy}
use Rattle.fl_ops.specs.declared.format.Format.{Format}
use Rattle.fl_ops.specs.declared.format.Format.TheVariants.{One, Two}
use Rattle.fl_ops.specs.Format.{format_byte, node_width, node_limit, last_kind}
use Rattle.fl_ops.specs.Fits.{HasBody, HasOp}
use Rattle.fl_ops.specs.Bytes.{name_bytes, name_size, cap_bytes, cap_size, policy_byte, kind_byte, body_bytes, body_place, op_bytes}
use Rattle.fl_wire.specs.parts.Items.{key_before, name_key, is_above}
use Rattle.fl_wire.specs.parts.Ops.{IsNextOp, AreNumbers, AddsBody, AddsNextOp, last_name}
use Rattle.fl_wire.proofs.NoFault.{next_is, name_rising}

pub adds : {f : Format} {bs : List ℕ} {at node seq kind end : ℕ} {old new : List Op} (op : Op) → new ≡ old ++ op ∷ [] → op.name.node ≡ node → op.name.seq ≡ seq → kind_byte op.body ≡ kind
    → HasBody f op.body → drop at bs ≡ body_bytes f op.body ++ drop end bs → end ≡ at + length (body_bytes f op.body) → AddsBody f bs at node seq kind old new end
adds op added node seq kind has spelled ends = record { op = op; added = added; of_node = node; of_seq = seq; of_kind = kind; has = has; spelled = spelled; ends = ends }

name_long : (f : Format) (n : Name) → length (name_bytes f n) ≡ name_size f
name_long One n = refl
name_long Two n = refl

module _ (f : Format) (bs : List ℕ) (at : ℕ) where
  pub tag_spelled : (p : Policy) (b : ℕ) → drop at bs ≡ b ∷ drop (at + 1) bs → policy_byte p ≡ b → drop at bs ≡ body_bytes f (MakeTag p) ++ drop (at + 1) bs
  tag_spelled p b e is = e ∙ ap (λ n. n ∷ drop (at + 1) bs) (sym is)

  -- as the code has them, the place between two parts
  pub put_spelled : (g : Name) (c : Cap) (size more : ℕ) → size ≡ name_size f → more ≡ cap_size f → drop at bs ≡ name_bytes f g ++ drop (at + name_size f) bs
      → drop (at + size) bs ≡ cap_bytes f c ++ drop (at + size + cap_size f) bs
      → (drop at bs ≡ body_bytes f (Put g c) ++ drop (at + size + more) bs) × (at + size + more ≡ at + length (body_bytes f (Put g c)))
  put_spelled g c size more p q e k =
      let place : at + name_size f ≡ at + size = omega (arith, p) in
      let end : at + size + cap_size f ≡ at + size + more = omega (arith, q) in (
        e ∙ ap (λ l. name_bytes f g ++ l) (ap (λ n. drop n bs) place ∙ k ∙ ap (λ n. cap_bytes f c ++ drop n bs) end) ∙ sym (append_assoc (name_bytes f g) (cap_bytes f c) (drop (at + size + more) bs)),
        omega (arith, p, q, length-append (name_bytes f g) (cap_bytes f c), name_long f g, name_long f (cap_name c)),
      )

  pub login_spelled : (c : Cap) (d : Digest) (size : ℕ) → size ≡ cap_size f → drop at bs ≡ cap_bytes f c ++ drop (at + cap_size f) bs → take 32 (drop (at + size) bs) ≡ d.bytes
      → (drop at bs ≡ body_bytes f (MakeLogin c d) ++ drop (at + size + 32) bs) × (at + size + 32 ≡ at + length (body_bytes f (MakeLogin c d)))
  login_spelled c d size p e k =
      let place : at + cap_size f ≡ at + size = omega (arith, p) in
      let rest : drop (at + size) bs ≡ d.bytes ++ drop (at + size + 32) bs = sym (take-append-drop 32 (drop (at + size) bs)) ∙ (λ i. k i ++ drop-drop 32 (at + size) bs i) in (
        e ∙ ap (λ l. cap_bytes f c ++ l) (ap (λ n. drop n bs) place ∙ rest) ∙ sym (append_assoc (cap_bytes f c) d.bytes (drop (at + size + 32) bs)),
        omega (arith, p, length-append (cap_bytes f c) d.bytes, name_long f (cap_name c), d.sized),
      )

  pub open_spelled : (g : Name) (size : ℕ) → size ≡ name_size f → drop at bs ≡ name_bytes f g ++ drop (at + name_size f) bs
      → (drop at bs ≡ body_bytes f (Open g) ++ drop (at + size) bs) × (at + size ≡ at + length (body_bytes f (Open g)))
  open_spelled g size p e =
      let place : at + name_size f ≡ at + size = omega (arith, p) in
      (e ∙ ap (λ n. name_bytes f g ++ drop n bs) place, omega (arith, p, name_long f g))

  -- the numbers and the body make the operation
  pub next_added : (old new : List Op) (kind node seq end : ℕ) → drop at bs ≡ format_byte f ∷ drop (at + 1) bs → drop (at + 1) bs ≡ kind ∷ drop (at + 1 + 1) bs
      → kind ≤ last_kind f → AreNumbers f bs (at + 2) (key_before name_key (last_name old)) node seq → AddsBody f bs (at + body_place f) node seq kind old new end → AddsNextOp f bs at old new end
  next_added old new kind node seq end format kinds known n b =
      let op = b.op in
      let numbers : name_key op.name ≡ node ∷ seq ∷ [] = λ i. b.of_node i ∷ b.of_seq i ∷ [] in
      let above : is_above name_cmp (last_name old) op.name ≡ true = sym (name_rising (last_name old) op.name) ∙ ap (λ k. is_lt (slice_cmp nat_cmp (key_before name_key (last_name old)) k)) numbers ∙ n.above in
      let two : at + 1 + 1 ≡ at + 2 = omega arith in
      let body : at + 2 + name_size f ≡ at + body_place f = omega arith in
      let w = node_width f in
      let name : drop (at + 2) bs ≡ name_bytes f op.name ++ (body_bytes f op.body ++ drop end bs) =
      n.spelled ∙ (λ i. to_be_bytes w (sym b.of_node i) ++ (to_be_bytes w32 (sym b.of_seq i) ++ drop (body i) bs))
      ∙ ap (λ l. to_be_bytes w op.name.node ++ (to_be_bytes w32 op.name.seq ++ l)) b.spelled
      ∙ sym (append_assoc (to_be_bytes w op.name.node) (to_be_bytes w32 op.name.seq) (body_bytes f op.body ++ drop end bs)) in
      let whole : drop at bs ≡ op_bytes f op ++ drop end bs =
      format ∙ ap (λ l. format_byte f ∷ l) (kinds ∙ (λ i. sym b.of_kind i ∷ drop (two i) bs) ∙ ap (λ l. kind_byte op.body ∷ l) (name ∙ sym (append_assoc (name_bytes f op.name) (body_bytes f op.body) (drop end bs)))) in
      let ends : at + length (op_bytes f op) ≡ end = omega (arith, b.ends, length-append (name_bytes f op.name) (body_bytes f op.body), name_long f op.name) in
      let has : HasOp f op = record { name = subst (λ m. m < node_limit f) (sym b.of_node) n.fits; body = b.has } in
      record {
        op = op;
        added = b.added;
        next = subst (IsNextOp f bs at (last_name old) op) ends (next_is f bs at (last_name old) op (drop end bs) has above whole);
      }
