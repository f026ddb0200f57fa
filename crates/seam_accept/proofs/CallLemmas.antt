-- What a `call` and a `move` are judged to be.
use Rattle.std.proofs.Common.{◌≡◌, ◌+◌, ℕ, List, length, refl, sym, ◌∙◌, ap, subst, arith, Some, None}
use Rattle.std.proofs.lemmas.Option.{none-some}
use Rattle.seam_value.specs.NumberWords.{SpellsPositive}
use Rattle.seam_defs.specs.Types.{type_of, method_of, AreDefs}
use Rattle.seam_defs.specs.Deeds.{part_of_deed}
use Rattle.seam_defs.specs.declared.flags.Part.{Part}
use Rattle.seam_defs.specs.declared.states.Deed.{Deed}
use Rattle.seam_call.specs.Senders.{IsSender}
use Rattle.seam_call.specs.declared.sender.Sender.{Sender}
use Rattle.seam_call.specs.declared.sender.Sender.TheVariants.{Base, Client}
use Rattle.seam_call.specs.declared.create.Create.{Create}
use Rattle.seam_toml.specs.declared.header.Header.{Header}
use Rattle.seam_rule_lines.specs.Book.{Book, entries, creates_of, live_as, accepted}
use Rattle.seam_rule_lines.specs.Judging.{NamesSender, NamesLive, NamesMethod, MayCall, MayMove, SpellsArgs, HoldsAgainst, IsDead, IsFirst}
use Rattle.seam_rule_lines.specs.declared.verdict.Entry.TheVariants.{Called}
use Rattle.seam_rule_lines.specs.declared.verdict.Cause.TheVariants as cause
use Rattle.seam_rule_lines.proofs.BookEntries.{live_is_created}
use Rattle.seam_rule_lines.proofs.InOrderLemmas.{found_entity}
use Rattle.seam_rule_lines.proofs.Verdicts.{positive_is_one, live_is_one, method_is_one, sender_is_one}
use Rattle.seam_accept.specs.Commands.{texts_of, asked_of}
use Rattle.seam_accept.specs.Judging.{Accepts, Refuses, Asks, MayAsk, NoDeed}
use Rattle.seam_accept.specs.declared.answers.Refusal.{Refusal}
use Rattle.seam_accept.specs.declared.answers.Refusal.TheVariants as refusal
use Rattle.seam_accept.specs.declared.command.DeedWords.{DeedWords}
use Rattle.seam_accept.specs.declared.command.DeedWords.TheVariants as words
use Rattle.seam_accept.proofs.Causes.{against_call, against_move}

-- a sender that is there is one
pub is_sender : (h : Header) (b : Book) (s : List ℕ) (who : Sender) → NamesSender h b s who → IsSender who
is_sender h b s (Base n) names = names.there.node
is_sender h b s (Client e) names = tt

-- no sender that is there has the name
pub no_sender_first : (h : Header) (b : Book) (s e : List ℕ) (entity : ℕ) (w : DeedWords) → SpellsPositive e entity →
    ((who : Sender) → ¬ (NamesSender h b s who)) → IsFirst (HoldsAgainst h b (asked_of s e w)) cause.NoSender
no_sender_first h b s e entity (words.Method m) number no_one = record {
  here = no_one;
  first = against_call h b s e m.name.now (texts_of m.arguments.now) _ (λ k. absurd (k entity number)) (λ k. omega arith)
      (λ k. omega arith) (λ k. omega arith) (λ k. omega arith);
}
no_sender_first h b s e entity (words.Move m) number no_one = record {
  here = no_one;
  first = against_move h b s e m.x.now m.z.now _ (λ k. absurd (k entity number)) (λ k. omega arith) (λ k. omega arith)
      (λ k. omega arith) (λ k. omega arith);
}

-- the words name a sender and a number of an entity
pub record AreNamed (h : Header) (b : Book) (s e : List ℕ) (who : Sender) (entity : ℕ) : Type 0 where
  pub number : SpellsPositive e entity
  pub sender : NamesSender h b s who

not_dead : (b : Book) (e : List ℕ) (made : Create) → NamesLive b e made → ¬ (IsDead b e)
not_dead b e made live (m, spells, none) =
    none-some made (sym none ∙ ap (live_as b) (positive_is_one e m made.entity spells live.number) ∙ live.lives)

-- no entity of the number lives
pub dead_first : (h : Header) (b : Book) (s e : List ℕ) (who : Sender) (entity : ℕ) (w : DeedWords) → AreNamed h b s e who entity →
    live_as b entity ≡ None → IsFirst (HoldsAgainst h b (asked_of s e w)) cause.Dead
dead_first h b s e who entity (words.Method m) named none = record {
  here = (entity, named.number, none);
  first = against_call h b s e m.name.now (texts_of m.arguments.now) _ (λ k. absurd (k entity named.number))
      (λ k. absurd (k who named.sender)) (λ k. omega arith) (λ k. omega arith) (λ k. omega arith);
}
dead_first h b s e who entity (words.Move m) named none = record {
  here = (entity, named.number, none);
  first = against_move h b s e m.x.now m.z.now _ (λ k. absurd (k entity named.number)) (λ k. absurd (k who named.sender))
      (λ k. omega arith) (λ k. omega arith) (λ k. omega arith);
}

module _ (h : Header) (b : Book) (s e : List ℕ) (who : Sender) (entity : ℕ) (made : Create) (named : AreNamed h b s e who entity)
    (is : live_as b entity ≡ Some made) where
  same_number : made.entity ≡ entity
  same_number = found_entity (creates_of (entries b)) entity made (live_is_created b entity made is)

  live : NamesLive b e made
  live = record { number = subst (SpellsPositive e) (sym same_number) named.number; lives = ap (live_as b) same_number ∙ is }

  -- the name names no other sender
  same_one : (other : Sender) → NamesSender h b s other → other ≡ who
  same_one other names = sender_is_one other who (names.spelled ∙ sym named.sender.spelled)

  -- a method of the name for the entity of another name of it is one for this
  same_method : (other : Create) (name : List ℕ) (m : ℕ) → NamesLive b e other → NamesMethod (type_of h.defs other.ty) name m →
      NamesMethod (type_of h.defs made.ty) name m
  same_method other name m names has =
      subst (λ (c : Create). NamesMethod (type_of h.defs c.ty) name m) (live_is_one b e other made names live) has

  -- there is a method that the sender may call
  method_there : (name : List ℕ) (m : ℕ) → NamesMethod (type_of h.defs made.ty) name m →
      MayCall who entity (method_of (type_of h.defs made.ty) m) → (other : Create) → NamesLive b e other
      → ((one : Sender) (k : ℕ) → NamesSender h b s one → NamesMethod (type_of h.defs other.ty) name k →
      ¬ (MayCall one other.entity (method_of (type_of h.defs other.ty) k))) → ⊥
  method_there name m has may other names none =
      let one = live_is_one b e made other live names in
      none who m named.sender (subst (λ (c : Create). NamesMethod (type_of h.defs c.ty) name m) one has)
      (subst (λ (c : Create). MayCall who c.entity (method_of (type_of h.defs c.ty) m)) one
      (subst (λ (n : ℕ). MayCall who n (method_of (type_of h.defs made.ty) m)) (sym same_number) may))

  move_there : MayMove who entity → (other : Create) → NamesLive b e other →
      ((one : Sender) → NamesSender h b s one → ¬ (MayMove one other.entity)) → ⊥
  move_there may other names none =
      none who named.sender (subst (λ (c : Create). MayMove who c.entity) (live_is_one b e made other live names)
      (subst (MayMove who) (sym same_number) may))

  -- the words ask the entity for no deed that the sender may ask for
  pub no_deed_first : (w : DeedWords) (r : Refusal) → NoDeed h who entity w (type_of h.defs made.ty) r → Refuses h b (asked_of s e w) r
  no_deed_first (words.Method m) (refusal.Cause cause.UnknownMethod) none = record {
    here = (
      made,
      live,
      λ other k names has may. none k has
          (subst (λ (n : ℕ). MayCall who n (method_of (type_of h.defs made.ty) k)) same_number
          (subst (λ (x : Sender). MayCall x made.entity (method_of (type_of h.defs made.ty) k)) (same_one other names) may)),
    );
    first = against_call h b s e m.name.now (texts_of m.arguments.now) _ (λ k. absurd (k entity named.number))
        (λ k. absurd (k who named.sender)) (λ k. absurd (not_dead b e made live k)) (λ k. omega arith) (λ k. omega arith);
  }
  no_deed_first (words.Method m) (refusal.Cause cause.IllTyped) (k, has, may, none) = record {
    here = (made, k, live, has, none);
    first = against_call h b s e m.name.now (texts_of m.arguments.now) _ (λ k. absurd (k entity named.number))
        (λ k. absurd (k who named.sender)) (λ k. absurd (not_dead b e made live k))
        (λ (other, names, none). absurd (method_there m.name.now k has may other names none)) (λ k. omega arith);
  }
  no_deed_first (words.Move m) (refusal.Cause cause.UnknownMethod) not = record {
    here = (
      made,
      live,
      λ other names may. not (subst (MayMove who) same_number (subst (λ (x : Sender). MayMove x made.entity) (same_one other names) may)),
    );
    first = against_move h b s e m.x.now m.z.now _ (λ k. absurd (k entity named.number)) (λ k. absurd (k who named.sender))
        (λ k. absurd (not_dead b e made live k)) (λ k. omega arith) (λ k. omega arith);
  }
  no_deed_first (words.Move m) (refusal.Cause cause.IllTyped) (may, none) = record {
    here = none;
    first = against_move h b s e m.x.now m.z.now _ (λ k. absurd (k entity named.number)) (λ k. absurd (k who named.sender))
        (λ k. absurd (not_dead b e made live k)) (λ (other, names, none). absurd (move_there may other names none)) (λ k. omega arith);
  }
  no_deed_first w refusal.NoMemory none = tt
  no_deed_first w (refusal.Cause k) none = absurd none

  -- the words ask it for a deed that the sender may ask for
  module _ (are : AreDefs h.defs) (d : Deed) (p : Part) (number : ℕ) (part : p ≡ part_of_deed (type_of h.defs made.ty) d)
      (next : number ≡ length (accepted b p entity who) + 1) where
    pub call_accepted : (w : DeedWords) → Asks h w (type_of h.defs made.ty) d → MayAsk who entity (type_of h.defs made.ty) d →
        Accepts h b (asked_of s e w) (Called (record { entity = entity; part = p; sender = who; number = number; deed = d }))
    call_accepted (words.Method m) asks may = record {
      none = against_call h b s e m.name.now (texts_of m.arguments.now) _ (λ k. k entity named.number)
          (λ k. k who named.sender) (not_dead b e made live)
          (λ (other, names, none). method_there m.name.now asks.0 asks.2
          (subst (MayAsk who entity (type_of h.defs made.ty)) asks.4 may) other names none)
          (λ (other, k, names, has, none).
          let same = live_is_one b e other made names live in
          let method : k ≡ asks.0 =
          method_is_one h.defs made.ty m.name.now k asks.0 are (same_method other m.name.now k names has) asks.2 in
          none asks.1 (subst (λ (c : Create). SpellsArgs (method_of (type_of h.defs c.ty) k) (texts_of m.arguments.now) asks.1) (sym same)
          (subst (λ (j : ℕ). SpellsArgs (method_of (type_of h.defs made.ty) j) (texts_of m.arguments.now) asks.1) (sym method) asks.3)));
      adds = (
        _,
        record {
          sender = named.sender;
          made = made;
          live = live;
          entity_ = sym same_number;
          deed_ = asks;
          part_ = part;
          next = next;
        },
        refl,
      );
    }
    call_accepted (words.Move m) asks may = record {
      none = against_move h b s e m.x.now m.z.now _ (λ k. k entity named.number) (λ k. k who named.sender)
          (not_dead b e made live)
          (λ (other, names, none). move_there (subst (MayAsk who entity (type_of h.defs made.ty)) asks.2 may) other names none)
          (λ no. no asks.0 asks.1);
      adds = (
        _,
        record {
          sender = named.sender;
          made = made;
          live = live;
          entity_ = sym same_number;
          deed_ = asks;
          part_ = part;
          next = next;
        },
        refl,
      );
    }
