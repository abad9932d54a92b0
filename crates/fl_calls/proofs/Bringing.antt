-- What is done once the nodes are there, and what is said of packets by their numbers.
use Rattle.std.proofs.Common.{arith, ◌≡◌, ◌∙◌, ℕ, zero, suc, Bool, true, false, cond, refl, sym, ap, subst, List, [], ◌∷◌, length, Option, Some, None, MatchOption, Bor, Result, Ok, Err}
use Rattle.std.proofs.lemmas.Cmp.{nat_cmp_total}
use Rattle.std.specs.FinMap as map
use Rattle.std.specs.List.{slice_get, flat_map}
use Rattle.std.specs.FinMap.{nat_cmp-IsAntisymmetric}
use Rattle.std.specs.Ordering.{nat_cmp, eq_by_cmp}
use Rattle.fl_mailbox.specs.laws.Tables.{get_put}
use Rattle.fl_store.specs.Custody.{Custody}
use Rattle.fl_store.specs.Kept.{Kept}
use Rattle.fl_makers.specs.Making.{Making}
use Rattle.fl_wire.specs.declared.packet.Packet.{Packet}
use Rattle.fl_wire.specs.declared.packet.Packet.TheVariants as packets
use Rattle.fl_labels.specs.SetBy as set
use Rattle.fl_labels.specs.SetBy.{SetBy}
use Rattle.fl_ops.specs.OpOrder.{op_cmp}
use Rattle.fl_ops.specs.declared.op.Op.{Op}
use Rattle.fl_opset.specs.RegistryText.{op_line, registry_text}
use Rattle.fl_system.specs.declared.answer.Fault.{Fault}
use Rattle.fl_system.specs.declared.event.Event.{Event}
use Rattle.fl_system.specs.declared.event.Event.TheVariants as event
use Rattle.fl_system.specs.declared.sent.Sent.{Sent as AnySent}
use Rattle.fl_system.specs.declared.state.State.{State}
use Rattle.fl_system.specs.declared.state.State.TheVariants.{Running, Stopped}
use Rattle.fl_system.specs.Waiting.{NotRunning}
use Rattle.fl_node.specs.Over.{NodeOver}
use Rattle.fl_system.specs.declared.reply.Reply.{Reply}
use Rattle.fl_system.specs.declared.reply.Reply.TheVariants.{Job, Begun, Taking, Took, Published, Done, Booted, Sent, NoSuch, Refused}
use Rattle.fl_system.specs.Joins.{Joins}
use Rattle.fl_system.specs.Numbered.{item_at}
use Rattle.fl_system.specs.World.{World, KeptNode}
use Rattle.fl_system.specs.WorldSteps.{IsAt, Step}
use Rattle.fl_nodes.specs.Over.{WorldOver}
use Rattle.fl_nodes.specs.Goes.{MayBe, Goes}
use Rattle.fl_calls.specs.declared.response.Response.{Response}
use Rattle.fl_calls.specs.declared.response.Response.TheVariants as response
use Rattle.fl_calls.specs.Answer.{Answer, replied, unknown, shown, lent, registry_of}
use Rattle.fl_calls.specs.Calls.{Says, said_of, brings_ops, Delivers, BeginsToTake}
use Rattle.fl_calls.specs.Completing.{Completes}
use Rattle.fl_calls.specs.Entering.{Openings, Enters, is_there, joins, is_refused, OnceOpen, shut, opened}
use Rattle.fl_calls.specs.Over.{ClusterOver, openings_between, GoesOn}
use Rattle.fl_calls.specs.parts.Coming.{coming, is_message, sent_at, IsSentAs}
use Rattle.fl_calls.specs.laws.Widening.{enters_more}
use Rattle.fl_calls.proofs.Going.{goes_as}
use Rattle.fl_calls.proofs.Messages.{once_open_with}
use Rattle.fl_calls.proofs.Opening.{first_wider, goes_on_as, rests, once_open, once_shut, both_open, then_wider}

-- ---- packets

pub no_item : {A : Type 0} (xs : List A) → item_at xs zero ≡ None
no_item [] = refl
no_item (x ∷ xs) = refl

pub item_is : {A : Type 0} (xs : List A) (before : ℕ) → item_at xs (suc before) ≡ slice_get xs before
item_is [] before = refl
item_is (x ∷ xs) zero = refl
item_is (x ∷ xs) (suc before) = item_is xs before

-- what is said of a packet that came
pub comes_as : {K : Type 0} (over : WorldOver K) (packet : Packet) (reply : Reply)
    → shown over (coming (is_message packet) reply) ≡ said_of packet reply
comes_as over (packets.Full batch) reply = refl
comes_as over (packets.Have window) reply = refl
comes_as over (packets.Delta batch) reply = refl
comes_as over (packets.Data d) (Job reply) = refl
comes_as over (packets.Data d) (Begun name) = refl
comes_as over (packets.Data d) (Taking count) = refl
comes_as over (packets.Data d) (Took count) = refl
comes_as over (packets.Data d) (Published name) = refl
comes_as over (packets.Data d) Done = refl
comes_as over (packets.Data d) (Booted boot) = refl
comes_as over (packets.Data d) (Sent first count) = refl
comes_as over (packets.Data d) NoSuch = refl
comes_as over (packets.Data d) (Refused fault) = refl

-- ---- nodes that are there

-- some node stands there in the world
pub record Stands (w : World) (number : ℕ) : Type 0 where
  pub s : KeptNode
  pub at : IsAt w number s

put_there : {X : Type 0} (m : map.FinMap nat_cmp X) (number q : ℕ) (x y : X) (b : Bool) → eq_by_cmp nat_cmp q number ≡ b
    → map.get m q ≡ Some y → (z : X) × (map.get (map.insert m number x) q ≡ Some z)
put_there m number q x y true e at =
    (x, map.get-insert nat_cmp_total m number x q ∙ ap (λ b. cond b (Some x) (map.get m q)) e)
put_there m number q x y false e at =
    (y, map.get-insert nat_cmp_total m number x q ∙ ap (λ b. cond b (Some x) (map.get m q)) e ∙ at)

put_here : {X : Type 0} (m : map.FinMap nat_cmp X) (number : ℕ) (x : X) → map.get (map.insert m number x) number ≡ Some x
put_here m number x = get_put nat_cmp_total nat_cmp-IsAntisymmetric m number x

-- a node that joined is there
joined_there : (w : World) (number : ℕ) (k : Kept) (reply : Reply) (w' : World) (boot : ℕ) → reply ≡ Booted boot
    → Joins w number k reply w' → Stands w' number
joined_there w number k reply w' boot is (Joins.there at) = absurd (cc)
joined_there w number k reply w' boot is (Joins.not_opened none refusal) = absurd (cc)
joined_there w number k reply w' boot is (Joins.clash none of left least) = absurd (cc)
joined_there w number k reply w' boot is (Joins.impostor none of left clash least) = absurd (cc)
joined_there w number k reply w' boot is (Joins.joins none of left once clash stray) = record { s = _; at = put_here w.nodes number _ }

-- and the others still are
joined_still : (w : World) (number other : ℕ) (k : Kept) (reply : Reply) (w' : World) → Stands w other
    → Joins w number k reply w' → Stands w' other
joined_still w number other k reply w' stands (Joins.there at) = stands
joined_still w number other k reply w' stands (Joins.not_opened none refusal) = stands
joined_still w number other k reply w' stands (Joins.clash none of left least) = stands
joined_still w number other k reply w' stands (Joins.impostor none of left clash least) = stands
joined_still w number other k reply w' stands (Joins.joins none of left once clash stray) =
    let put = put_there w.nodes number other _ stands.s (eq_by_cmp nat_cmp other number) refl stands.at in
    record { s = put.0; at = put.1 }

-- a node that was entered is there
entered_there : (openings : Openings) (w : World) (number : ℕ) (result : Result (Unit {0}) Fault) (w' : World) (u : Unit {0})
    → result ≡ Ok u → Enters openings w number result w' → Stands w' number
entered_there openings w number result w' u ok (is_there at) = record { s = _; at = at }
entered_there openings w number result w' u ok (joins none found step) = joined_there w number _ _ w' _ refl step
entered_there openings w number result w' u ok (is_refused none why) = absurd (cc)

-- and the others still are
entered_still : (openings : Openings) (w : World) (number other : ℕ) (result : Result (Unit {0}) Fault) (w' : World)
    → Stands w other → Enters openings w number result w' → Stands w' other
entered_still openings w number other result w' stands (is_there at) = stands
entered_still openings w number other result w' stands (joins none found step) = joined_still w number other _ _ w' stands step
entered_still openings w number other result w' stands (is_refused none why) = stands

module _ {K M : Type 0} (custody : Custody K) (making : Making M K) where
  -- the node was opened, or was there, and then this is told of it
  pub once_told : (old mid : ClusterOver K M) (number : ℕ) (result : Result (Unit {0}) Fault) (u : Unit {0})
      (does : World → Answer → World → Type 0) (answer : Answer) → result ≡ Ok u
      → GoesOn custody making old mid (λ openings w w'. Enters openings w number result w')
      → ((w : World) (s : KeptNode) → MayBe custody mid.world w → IsAt w number s → does w answer w)
      → GoesOn custody making old mid (λ openings w w'. OnceOpen openings w number does answer w')
  once_told old mid number result u does answer ok enters tells = record {
    goes = record {
      honest = enters.goes.honest;
      comes = λ all after is.
          let before = enters.goes.comes all after is in
          let stands = entered_there _ before.0 number result after u ok before.2 in (
            before.0,
            before.1,
            opened
                (subst (λ r. Enters (openings_between custody making old.maker mid.maker) before.0 number r after) ok before.2)
                (tells after stands.s is stands.at),
          );
    };
    makes_less = enters.makes_less;
    finds_less = enters.finds_less;
    refuses_less = enters.refuses_less;
  }

  -- both nodes were opened, or were there, and then this is told of them
  pub both_told : (old mid new : ClusterOver K M) (first second : ℕ) (one other : Result (Unit {0}) Fault) (u v : Unit {0})
      (does : World → Answer → World → Type 0) (answer : Answer) → one ≡ Ok u → other ≡ Ok v
      → GoesOn custody making old mid (λ openings w w'. Enters openings w first one w')
      → GoesOn custody making mid new (λ openings w w'. Enters openings w second other w')
      → ((w : World) (s t : KeptNode) → MayBe custody new.world w → IsAt w first s → IsAt w second t → does w answer w)
      → GoesOn custody making old new
      (λ openings w w'. OnceOpen openings w first (λ x. OnceOpen openings x second does) answer w')
  both_told old mid new first second one other u v does answer ok then_ok enters then_ tells = record {
    goes = record {
      honest = λ all. enters.goes.honest (then_.goes.honest all);
      comes = λ all after is.
          let between = then_.goes.comes all after is in
          let before = enters.goes.comes (then_.goes.honest all) between.0 between.1 in
          let here = entered_still _ between.0 second first other after
          (entered_there _ before.0 first one between.0 u ok before.2) between.2 in
          let there = entered_there _ between.0 second other after v then_ok between.2 in (
            before.0,
            before.1,
            opened
                (enters_more _ _ (first_wider custody making old mid new then_.finds_less) before.0 between.0 first (Ok tt)
                (subst (λ r. Enters (openings_between custody making old.maker mid.maker) before.0 first r between.0) ok before.2))
                (opened (enters_more _ _ (then_wider custody making old mid new
                enters.makes_less enters.finds_less enters.refuses_less) between.0 after second (Ok tt)
                (subst (λ r. Enters (openings_between custody making mid.maker new.maker) between.0 second r after) then_ok between.2))
                (tells after here.s there.s is here.at there.at)),
          );
    };
    makes_less = λ n keeper made. enters.makes_less n keeper (then_.makes_less n keeper made);
    finds_less = λ n k found. enters.finds_less n k (then_.finds_less n k found);
    refuses_less = λ n fault why. enters.refuses_less n fault (then_.refuses_less n fault why);
  }

  -- the node was opened, or was there, and this is told of it
  pub told : (old mid : ClusterOver K M) (here : WorldOver K) (maker : M) (number : ℕ) (result : Result (Unit {0}) Fault) (u : Unit {0})
      (does : World → Answer → World → Type 0) (r tale : Response) → record { world = here; maker = maker } ≡ mid → result ≡ Ok u → r ≡ tale
      → GoesOn custody making old mid (λ openings w w'. Enters openings w number result w')
      → ((w : World) (s : KeptNode) → MayBe custody here w → IsAt w number s → does w (shown here tale) w)
      → GoesOn custody making old mid (λ openings w w'. OnceOpen openings w number does (shown mid.world r) w')
  told old mid here maker number result u does r tale is ok same enters tells =
      once_told old mid number result u does (shown mid.world r) ok enters
      (λ w s may at. subst (λ a. does w a w) (ap (λ x. shown here x) (sym same) ∙ ap (λ (c : ClusterOver K M). shown c.world r) is)
      (tells w s (subst (λ (c : ClusterOver K M). MayBe custody c.world w) (sym is) may) at))

  -- it was not opened
  pub told_why : (old mid : ClusterOver K M) (number : ℕ) (result : Result (Unit {0}) Fault) (fault : Fault)
      (does : World → Answer → World → Type 0) (r why : Response) → result ≡ Err fault → r ≡ why → why ≡ response.Reply (Refused fault)
      → GoesOn custody making old mid (λ openings w w'. Enters openings w number result w')
      → GoesOn custody making old mid (λ openings w w'. OnceOpen openings w number does (shown mid.world r) w')
  told_why old mid number result fault does r why err same is enters =
      subst (λ a. GoesOn custody making old mid (λ openings w w'. OnceOpen openings w number does a w'))
      (ap (λ x. shown mid.world x) (sym (same ∙ is))) (once_shut custody making old mid number result fault does err enters)

  -- the same of two nodes
  pub told_both : (old mid new : ClusterOver K M) (here : WorldOver K) (maker : M) (first second : ℕ) (one other : Result (Unit {0}) Fault)
      (u v : Unit {0}) (does : World → Answer → World → Type 0) (r tale : Response) → record { world = here; maker = maker } ≡ new → one ≡ Ok u
      → other ≡ Ok v → r ≡ tale
      → GoesOn custody making old mid (λ openings w w'. Enters openings w first one w')
      → GoesOn custody making mid new (λ openings w w'. Enters openings w second other w')
      → ((w : World) (s t : KeptNode) → MayBe custody here w → IsAt w first s → IsAt w second t → does w (shown here tale) w)
      → GoesOn custody making old new
      (λ openings w w'. OnceOpen openings w first (λ x. OnceOpen openings x second does) (shown new.world r) w')
  told_both old mid new here maker first second one other u v does r tale is ok then_ok same enters then_ tells =
      both_told old mid new first second one other u v does (shown new.world r) ok then_ok enters then_
      (λ w s t may at at2. subst (λ a. does w a w) (ap (λ x. shown here x) (sym same) ∙ ap (λ (c : ClusterOver K M). shown c.world r) is)
      (tells w s t (subst (λ (c : ClusterOver K M). MayBe custody c.world w) (sym is) may) at at2))

  -- the first was opened, or was there, and the second was not opened
  pub told_why_second : (old mid new : ClusterOver K M) (first second : ℕ) (one other : Result (Unit {0}) Fault) (u : Unit {0}) (fault : Fault)
      (does : World → Answer → World → Type 0) (r why : Response) → one ≡ Ok u → other ≡ Err fault → r ≡ why
      → why ≡ response.Reply (Refused fault)
      → GoesOn custody making old mid (λ openings w w'. Enters openings w first one w')
      → GoesOn custody making mid new (λ openings w w'. Enters openings w second other w')
      → GoesOn custody making old new
      (λ openings w w'. OnceOpen openings w first (λ x. OnceOpen openings x second does) (shown new.world r) w')
  told_why_second old mid new first second one other u fault does r why ok err same is enters then_ =
      both_open custody making old mid new first second one u does (shown new.world r) ok enters
      (told_why mid new second other fault does r why err same is then_)

  -- the first was not opened
  pub told_why_first : (old mid : ClusterOver K M) (first second : ℕ) (result : Result (Unit {0}) Fault) (fault : Fault)
      (does : World → Answer → World → Type 0) (why : Response) → result ≡ Err fault → why ≡ response.Reply (Refused fault)
      → GoesOn custody making old mid (λ openings w w'. Enters openings w first result w')
      → GoesOn custody making old mid
      (λ openings w w'. OnceOpen openings w first (λ x. OnceOpen openings x second does) (shown mid.world why) w')
  told_why_first old mid first second result fault does why err is enters =
      subst (λ a. GoesOn custody making old mid
      (λ openings w w'. OnceOpen openings w first (λ x. OnceOpen openings x second does) a w')) (ap (λ x. shown mid.world x) (sym is))
      (goes_on_as custody making old mid (λ openings w w'. Enters openings w first result w')
      (λ openings w w'. OnceOpen openings w first (λ x. OnceOpen openings x second does) (replied (Refused fault)) w')
      (λ openings w w' may entered. shut (subst (λ r. Enters openings w first r w') err entered)) enters)

  -- the packet was not sent, and nothing changes
  pub not_delivered : (old : ClusterOver K M) (number packet : ℕ) → item_at old.world.packets packet ≡ None
      → GoesOn custody making old old (λ openings w w'. Delivers openings w number packet unknown w')
  not_delivered old number packet none =
      rests custody making old (λ openings w w'. Delivers openings w number packet unknown w')
      (λ openings w may. Delivers.not_sent (ap (λ l. item_at l packet) may.packets ∙ none))

  pub not_taken : (old : ClusterOver K M) (number packet : ℕ) → item_at old.world.packets packet ≡ None
      → GoesOn custody making old old (λ openings w w'. BeginsToTake openings w number packet unknown w')
  not_taken old number packet none =
      rests custody making old (λ openings w w'. BeginsToTake openings w number packet unknown w')
      (λ openings w may. BeginsToTake.not_sent (ap (λ l. item_at l packet) may.packets ∙ none))

  -- nor is one begun to be taken that is not one of operations
  pub no_ops : (old : ClusterOver K M) (number packet : ℕ) (sent : AnySent) (b : Bool) → item_at old.world.packets packet ≡ Some sent
      → b ≡ brings_ops sent.packet → b ≡ false
      → GoesOn custody making old old (λ openings w w'. BeginsToTake openings w number packet unknown w')
  no_ops old number packet sent b at is other =
      rests custody making old (λ openings w w'. BeginsToTake openings w number packet unknown w')
      (λ openings w may. BeginsToTake.no_ops (ap (λ l. item_at l packet) may.packets ∙ at) (sym is ∙ other))

  delivers_once : (old new : ClusterOver K M) (number packet : ℕ) (sent : AnySent) (answer : Answer)
      → item_at old.world.packets packet ≡ Some sent
      → GoesOn custody making old new (λ openings w w'. OnceOpen openings w number
      (λ v. Says (said_of sent.packet) (Completes v (event.Deliver packet number))) answer w')
      → GoesOn custody making old new (λ openings w w'. Delivers openings w number packet answer w')
  delivers_once old new number packet sent answer at once =
      goes_on_as custody making old new (λ openings w w'. OnceOpen openings w number
      (λ v. Says (said_of sent.packet) (Completes v (event.Deliver packet number))) answer w')
      (λ openings w w'. Delivers openings w number packet answer w')
      (λ openings w w' may o. Delivers.comes (ap (λ l. item_at l packet) may.packets ∙ at) o) once

  -- the packet came
  pub delivered : (old mid : ClusterOver K M) (here new : WorldOver K) (maker : M) (number packet : ℕ) (result : Result (Unit {0}) Fault)
      (u : Unit {0}) (sent : AnySent) (b : Bool) (reply : Reply) (r : Response) → record { world = here; maker = maker } ≡ mid
      → result ≡ Ok u → item_at old.world.packets packet ≡ Some sent → b ≡ is_message sent.packet → r ≡ coming b reply
      → GoesOn custody making old mid (λ openings w w'. Enters openings w number result w')
      → Goes custody here new (λ w w'. IsSentAs w packet b → Completes w (event.Deliver packet number) reply w')
      → GoesOn custody making old (record { world = new; maker = maker })
      (λ openings w w'. Delivers openings w number packet (shown new r) w')
  delivered old mid here new maker number packet result u sent b reply r is ok at message said enters goes =
      let does : World → Answer → World → Type 0 = λ v. Says (said_of sent.packet) (Completes v (event.Deliver packet number)) in
      let says : shown new r ≡ said_of sent.packet reply =
      ap (λ x. shown new x) (said ∙ ap (λ m. coming m reply) message) ∙ comes_as new sent.packet reply in
      goes_on_as custody making old (record { world = new; maker = maker })
      (λ openings w w'. OnceOpen openings w number (λ v a v'. IsSentAs v packet b → does v a v') (shown new r) w')
      (λ openings w w'. Delivers openings w number packet (shown new r) w')
      (λ openings w w' may o.
      let there : item_at w.packets packet ≡ Some sent = ap (λ l. item_at l packet) may.packets ∙ at in
      Delivers.comes there (once_open_with openings w number packet b does (shown new r) w'
      (record { sent = sent; there = there; kind = sym message }) o))
      (once_open custody making old mid here new maker number result u (λ v a v'. IsSentAs v packet b → does v a v') (shown new r) is ok enters
      (goes_as custody here new (λ w w'. IsSentAs w packet b → Completes w (event.Deliver packet number) reply w')
      (λ w w'. IsSentAs w packet b → does w (shown new r) w')
      (λ w w' done sent_as. (reply, says, done sent_as)) goes))

  -- the node was not opened
  pub not_come : (old mid : ClusterOver K M) (number packet : ℕ) (result : Result (Unit {0}) Fault) (fault : Fault) (sent : AnySent)
      (why : Response) → result ≡ Err fault → item_at old.world.packets packet ≡ Some sent → why ≡ response.Reply (Refused fault)
      → GoesOn custody making old mid (λ openings w w'. Enters openings w number result w')
      → GoesOn custody making old mid (λ openings w w'. Delivers openings w number packet (shown mid.world why) w')
  not_come old mid number packet result fault sent why err at is enters =
      delivers_once old mid number packet sent (shown mid.world why) at
      (told_why old mid number result fault (λ v. Says (said_of sent.packet) (Completes v (event.Deliver packet number))) why why err refl is enters)

  takes_once : (old new : ClusterOver K M) (number packet : ℕ) (sent : AnySent) (answer : Answer)
      → item_at old.world.packets packet ≡ Some sent → brings_ops sent.packet ≡ true
      → GoesOn custody making old new (λ openings w w'. OnceOpen openings w number
      (λ v. Says replied (Step v (event.Deliver packet number))) answer w')
      → GoesOn custody making old new (λ openings w w'. BeginsToTake openings w number packet answer w')
  takes_once old new number packet sent answer at ops once =
      goes_on_as custody making old new (λ openings w w'. OnceOpen openings w number
      (λ v. Says replied (Step v (event.Deliver packet number))) answer w')
      (λ openings w w'. BeginsToTake openings w number packet answer w')
      (λ openings w w' may o. BeginsToTake.comes (ap (λ l. item_at l packet) may.packets ∙ at) ops o) once

  -- the packet is begun to be taken
  pub taken : (old mid : ClusterOver K M) (here new : WorldOver K) (maker : M) (number packet : ℕ) (result : Result (Unit {0}) Fault)
      (u : Unit {0}) (sent : AnySent) (b : Bool) (e : Event) (reply : Reply) → record { world = here; maker = maker } ≡ mid
      → result ≡ Ok u → item_at old.world.packets packet ≡ Some sent → b ≡ brings_ops sent.packet → b ≡ true
      → e ≡ event.Deliver packet number
      → GoesOn custody making old mid (λ openings w w'. Enters openings w number result w')
      → Goes custody here new (λ w w'. Step w e reply w')
      → GoesOn custody making old (record { world = new; maker = maker })
      (λ openings w w'. BeginsToTake openings w number packet (replied reply) w')
  taken old mid here new maker number packet result u sent b e reply is ok at ops brings arrival enters goes =
      takes_once old (record { world = new; maker = maker }) number packet sent (replied reply) at (sym ops ∙ brings)
      (once_open custody making old mid here new maker number result u
      (λ v. Says replied (Step v (event.Deliver packet number))) (replied reply) is ok enters
      (goes_as custody here new (λ w w'. Step w e reply w')
      (λ w w'. Says replied (Step w (event.Deliver packet number)) (replied reply) w')
      (λ w w' done. (reply, refl, subst (λ f. Step w f reply w') arrival done)) goes))

  pub not_begun : (old mid : ClusterOver K M) (number packet : ℕ) (result : Result (Unit {0}) Fault) (fault : Fault) (sent : AnySent)
      (b : Bool) (why : Response) → result ≡ Err fault → item_at old.world.packets packet ≡ Some sent → b ≡ brings_ops sent.packet → b ≡ true
      → why ≡ response.Reply (Refused fault)
      → GoesOn custody making old mid (λ openings w w'. Enters openings w number result w')
      → GoesOn custody making old mid (λ openings w w'. BeginsToTake openings w number packet (shown mid.world why) w')
  not_begun old mid number packet result fault sent b why err at ops brings is enters =
      takes_once old mid number packet sent (shown mid.world why) at (sym ops ∙ brings)
      (told_why old mid number result fault (λ v. Says replied (Step v (event.Deliver packet number))) why why err refl is enters)

-- ---- the packet of a number, and what is lent of a registry

numbered : (xs : List AnySent) (k : ℕ) → item_at xs k ≡ sent_at xs k
numbered xs zero = no_item xs
numbered xs (suc before) = item_is xs before

pub found : (o : Option (Bor AnySent)) (xs ys : List AnySent) (k : ℕ) → xs ≡ ys
    → MatchOption o (sent_at xs k ≡ None) (λ s. sent_at xs k ≡ Some s.now)
    → MatchOption o (item_at ys k ≡ None) (λ s. item_at ys k ≡ Some s.now)
found None xs ys k same none = ap (λ l. item_at l k) (sym same) ∙ numbered xs k ∙ none
found (Some s) xs ys k same at = ap (λ l. item_at l k) (sym same) ∙ numbered xs k ∙ at

no_members : registry_text (set.empty {R = op_cmp}) ≡ []
no_members = ap (λ l. flat_map op_line l) (none (set.members (set.empty {R = op_cmp})) (sym (set.len-members (set.empty {R = op_cmp})) ∙ set.len-empty op_cmp))
  where
    none : (l : List Op) → length l ≡ 0 → l ≡ []
    none [] e = refl
    none (x ∷ l) e = absurd (omega (arith, e))

lent_none : (s : State) (fault : Fault) (ops : SetBy op_cmp) → NotRunning s fault → registry_text (lent s ops) ≡ []
lent_none (Running pending) fault ops not = absurd not
lent_none (Stopped doubt) fault ops not = no_members

pub no_text : {K M : Type 0} (c : ClusterOver K M) (here : WorldOver K) (maker : M) (number : ℕ)
    → record { world = here; maker = maker } ≡ c → map.get here.nodes number ≡ None
    → registry_text (registry_of (map.get c.world.nodes number)) ≡ []
no_text {K} {M} c here maker number is none =
    ap (λ (c : ClusterOver K M). registry_text (registry_of (map.get c.world.nodes number))) (sym is)
    ∙ ap (λ (o : Option (NodeOver K)). registry_text (registry_of o)) none ∙ no_members

pub stopped_text : {K M : Type 0} (c : ClusterOver K M) (here : WorldOver K) (maker : M) (number : ℕ) (n : NodeOver K) (fault : Fault)
    → record { world = here; maker = maker } ≡ c → map.get here.nodes number ≡ Some n → NotRunning n.node.state fault
    → registry_text (registry_of (map.get c.world.nodes number)) ≡ []
stopped_text {K} {M} c here maker number n fault is at not =
    ap (λ (c : ClusterOver K M). registry_text (registry_of (map.get c.world.nodes number))) (sym is)
    ∙ ap (λ (o : Option (NodeOver K)). registry_text (registry_of o)) at ∙ lent_none n.node.state fault _ not
