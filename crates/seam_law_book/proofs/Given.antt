-- The batch of a book's open round may be given to a world that goes with the book as the round began.
use Rattle.seam_law_book.proofs.Prelude.{◌≡◌, ℕ, ◌<◌, ◌≤◌, Bool, true, false, cond, eqb, List, [], ◌∷◌, length, Option, suc, Some, None}
use Rattle.seam_law_book.proofs.Prelude.{refl, sym, ap, ◌∙◌, subst, arith, inl, inr, ◌==◌, ◌&&◌, AllByRecursion, filter_map, cons_option}
use Rattle.seam_law_book.proofs.Prelude.{eqb-true, eq-eqb, quiet_links, type_of, Division, Part, is_for, same_part, Call as CallData}
use Rattle.seam_law_book.proofs.Prelude.{Create, Order, Batch, RealView, cell_count, can_do, limit, PartView, holders, World, node_has_work}
use Rattle.seam_law_book.proofs.Prelude.{loaded, Header, Book, calls_of, created_as, Entry, letters_of, mine, order_about, entity_flow}
use Rattle.seam_law_book.proofs.Prelude.{reaped_by_order, most_entities, real_at, next_from, IsBetweenRounds, MayBeMade, HasNoWitness}
use Rattle.seam_law_book.proofs.Prelude.{IsFitOrder, IsForReal, IsFitting, next_to, IsFitBaseOrder, IsForPart, MayBeGiven, as_begun}
use Rattle.seam_law_book.proofs.Prelude.{made_among, IsPresent, GetsClient, HasEntity, IsNewEntity, IsFitCall, HasFitRound, IsUntouched}
use Rattle.seam_law_book.proofs.Prelude.{frame_of, base_node, GoesWith, HasRoomForCalls, HasRoomForRound, passes_to, ordered, batch_of}
use Rattle.seam_law_book.proofs.Prelude.{one_holder, holds_kept, holds_made}
use Rattle.std.specs.List.{IsDistinct}
use Rattle.seam_defs.specs.declared.flags.Part.TheVariants as part
use Rattle.seam_call.specs.declared.order.Order.TheVariants as order
use Rattle.seam_rule_lines.specs.declared.verdict.Entry.TheVariants as entry
use Rattle.seam_law_book.proofs.Adding.{all_turn}
use Rattle.seam_law_book.proofs.Holding.{same_holders}
use Rattle.seam_law_book.proofs.Origins.{RealFrom, real_from, part_from}
use Rattle.seam_law_book.proofs.Numbering.{cell_numbered, base_numbered}
use Rattle.seam_law_book.proofs.Fitting.{same_self, can_test, may_be_made, type_by, next_by, part_type_by, next_to_by, unseen_by}
use Rattle.seam_node_steps.specs.Prelude.{TellsNone}
use Rattle.seam_law_calls.proofs.Holds.{all_two}

-- ---- orders of entries

-- what is true of each call of the entries, and of a tick, is true of each order
each_order : (h : Header) (P : Order → Type 0) (Q : CallData → Type 0) →
    ((p : Part) (c : CallData) → p ≡ c.part → Q c → P (passes_to p c)) →
    P order.Tick → (xs : List Entry) → AllByRecursion Q (calls_of xs) → AllByRecursion (λ o. P o.1) (filter_map (ordered h) xs)
each_order h P Q turn tick [] all = tt
each_order h P Q turn tick (entry.Called c ∷ xs) all = (turn c.part c refl all.0, each_order h P Q turn tick xs all.1)
each_order h P Q turn tick (entry.Ticked ∷ xs) all = (tick, each_order h P Q turn tick xs all)
each_order h P Q turn tick (_ ∷ xs) all = each_order h P Q turn tick xs all

few_by : {X : Type 0} (o : Option X) (xs : List X) (n : ℕ) → length xs ≤ n → length (cons_option o xs) ≤ suc n
few_by None xs n le = omega (arith, le)
few_by (Some x) xs n le = omega (arith, le)

few_orders : (h : Header) (xs : List Entry) → length (filter_map (ordered h) xs) ≤ length xs
few_orders h [] = omega arith
few_orders h (x ∷ xs) = few_by (ordered h x) (filter_map (ordered h) xs) (length xs) (few_orders h xs)

no_reap : (p : Part) (c : CallData) → reaped_by_order (passes_to p c) ≡ None
no_reap part.Cell c = refl
no_reap part.Base c = refl

tells_none : (p : Part) (c : CallData) → TellsNone (passes_to p c)
tells_none part.Cell c = refl
tells_none part.Base c = refl

about : (p : Part) (c : CallData) → order_about (passes_to p c) ≡ Some c.entity
about part.Cell c = refl
about part.Base c = refl

-- the batch with its creates alone
abbrev creating : Batch → Batch
creating b = record b { clients = []; orders = []; destroys = [] }

module _ (h : Header) (some : 1 ≤ h.settings.bases) (b : Book) (t : Division) (w : World)
    (between : IsBetweenRounds (frame_of h t) w) (goes : GoesWith h (as_begun b) t w) (R : HasFitRound h b)
    (untouched : (e : ℕ) → created_as (as_begun b) e ≡ None → IsUntouched (as_begun b) e) (few : HasRoomForCalls b)
    (room : HasRoomForRound h w) where
  abbrev B : Batch
  B = batch_of h b

  creates : AllByRecursion (MayBeMade (frame_of h t) w) B.creates
  creates = all_turn (IsNewEntity h b) (MayBeMade (frame_of h t) w) (may_be_made h b t w between goes R untouched) B.creates R.creates

  spares : AllByRecursion (λ o. reaped_by_order o.1 ≡ None) B.orders
  spares = each_order h (λ o. reaped_by_order o ≡ None) (IsFitCall h b) (λ p c is fit. no_reap p c) refl b.current R.calls

  unmoved : AllByRecursion (λ o. TellsNone o.1) B.orders
  unmoved = each_order h TellsNone (IsFitCall h b) (λ p c is fit. tells_none p c) refl b.current R.calls

  -- a last number is below its limit
  next_low : (e k : ℕ) (r : RealView) → RealFrom w B.creates e k r → (s : ℕ) → next_from s r < limit
  next_low e k r from s =
      let is = next_by h b t w between goes R untouched e k r from s in
      let low = (cell_numbered h some b R few t e s (next_from s r) is).room in
      omega (arith, low)

  -- ---- who is there

  none_twice : IsDistinct {K = ℕ} eqb []
  unfolding IsDistinct
  none_twice = tt

  fits_creating : IsFitting (frame_of h t) w (creating B)
  fits_creating = record {
    tree = R.tree;
    space = R.space;
    cells = let a = goes.cells in let c = R.cells in omega (arith, a, c);
    creates = creates;
    once = R.once;
    clients = tt;
    unseen = tt;
    one_each = none_twice;
    destroys = tt;
    ends_once = none_twice;
    spares = tt;
    unmoved = tt;
    known = tt;
    calls = λ e k r here.
        let from = real_from (frame_of h t) w (creating B) between R.tree creates tt R.once e k r here in
        record {
          fit = tt;
          numbered = λ s. record {
            node = cell_count;
            is_base = omega arith;
            in_net = omega (arith, some);
            calls = refl;
            others = λ j n. refl;
            room = let low = next_low e k r from s in omega (arith, low);
          };
        };
    few = omega arith;
    small = room.reals;
  }

  same_made : (e : ℕ) → holders (loaded w B) e ≡ holders (loaded w (creating B)) e
  same_made e = same_holders e w B (creating B) refl refl

  made_by : (e : ℕ) (c x : Create) (y : Bool) (o : Option Create) → (x.entity == e) ≡ y → cond y (Some x) o ≡ Some c →
      holders (loaded w (creating B)) x.entity ≡ 1 → (o ≡ Some c → holders (loaded w (creating B)) e ≡ 1) →
      holders (loaded w (creating B)) e ≡ 1
  made_by e c x true o at found one rest = subst (λ d. holders (loaded w (creating B)) d ≡ 1) (eqb-true x.entity e at) one
  made_by e c x false o at found one rest = rest found

  made_one : (e : ℕ) (c : Create) (xs : List Create) → AllByRecursion (λ x. holders (loaded w (creating B)) x.entity ≡ 1) xs →
      made_among xs e ≡ Some c → holders (loaded w (creating B)) e ≡ 1
  made_one e c [] all is = absurd (let z = is in cc)
  made_one e c (x ∷ xs) all is = made_by e c x (x.entity == e) (made_among xs e) refl is all.0 (made_one e c xs all.1)

  -- who is there in the round has one holder once the batch is loaded
  pub present_one : (e : ℕ) (c : Create) → IsPresent b e c → holders (loaded w B) e ≡ 1
  present_one e c (inl lives) =
      let held = goes.live e c lives in
      let one = one_holder (frame_of h t) w e held.cell held.real (between.settled e held.cell held.real held.here) (quiet_mail e) in
      same_made e ∙ holds_kept (frame_of h t) w (creating B) (record { between = between; fits = fits_creating }) e one
    where
      quiet_mail : (e x y : ℕ) → (entity_flow e w).mail x y ≡ []
      quiet_mail e x y = ap (letters_of (mine e)) (quiet_links node_has_work w between.nodes.sound.square between.quiet x y)
  present_one e c (inr now) =
      same_made e ∙ made_one e c B.creates (holds_made (frame_of h t) w (creating B) (record { between = between; fits = fits_creating }))
      now

  -- ---- calls

  -- the call is for that part, and can be done there
  fits_there : (ty : ℕ) (p : Part) (c : CallData) → p ≡ c.part → (fit : IsFitCall h b c) → ty ≡ fit.made.ty → (e : ℕ) → c.entity ≡ e →
      (is_for p e c && can_do h.settings.size (type_of h.defs ty) p c.deed) ≡ true
  fits_there ty p c is fit same_type e at =
      all_two (is_for p e c) (can_do h.settings.size (type_of h.defs ty) p c.deed)
      (all_two (c.entity == e) (same_part c.part p) (eq-eqb c.entity e at) (ap (λ q. same_part q p) (sym is) ∙ same_self p))
      (ap (λ y. can_do h.settings.size (type_of h.defs y) p c.deed) same_type
      ∙ can_test h (type_of h.defs fit.made.ty) p c.deed fit.deed (is ∙ fit.part) fit.inside)

  fit_cell : (e ty : ℕ) → ((c : Create) → IsPresent b e c → ty ≡ c.ty) → (p : Part) (c : CallData) → p ≡ c.part → IsFitCall h b c →
      IsFitOrder (frame_of h t) e ty (passes_to p c)
  fit_cell e ty types part.Cell c is fit =
      λ at. fits_there ty part.Cell c is fit (types fit.made (subst (λ d. IsPresent b d fit.made) at fit.present)) e at
  fit_cell e ty types part.Base c is fit = tt

  fit_base : (e ty : ℕ) → ((c : Create) → IsPresent b e c → ty ≡ c.ty) → (p : Part) (c : CallData) → p ≡ c.part → IsFitCall h b c →
      IsFitBaseOrder (frame_of h t) e ty (passes_to p c)
  fit_base e ty types part.Base c is fit =
      λ at. fits_there ty part.Base c is fit (types fit.made (subst (λ d. IsPresent b d fit.made) at fit.present)) c.entity refl
  fit_base e ty types part.Cell c is fit = tt

  for_real : (e k : ℕ) (r : RealView) → real_at e (loaded w B) k ≡ Some r → IsForReal (frame_of h t) B e r
  for_real e k r here =
      let from = real_from (frame_of h t) w B between R.tree creates spares R.once e k r here in
      record {
        fit = each_order h (IsFitOrder (frame_of h t) e r.ty) (IsFitCall h b)
            (fit_cell e r.ty (type_by h b t w between goes R untouched e k r from)) tt b.current R.calls;
        numbered = λ s.
            cell_numbered h some b R few t e s (next_from s r) (next_by h b t w between goes R untouched e k r from s);
      }

  for_part : (e : ℕ) (p : PartView) → ((entity_flow e (loaded w B)).slot (base_node h e)).base.part ≡ Some p →
      IsForPart (frame_of h t) B e p
  for_part e p here =
      let from = part_from (frame_of h t) w B between R.tree creates spares R.once e (base_node h e) p here in
      record {
        fit = each_order h (IsFitBaseOrder (frame_of h t) e p.ty) (IsFitCall h b)
            (fit_base e p.ty (part_type_by h b t w between goes R untouched e p from)) tt b.current R.calls;
        numbered = λ s.
            base_numbered h some b R few t e s (next_to s p) (next_to_by h b t w between goes R untouched e p from s);
      }

  -- ---- all of it

  abbrev IsAboutReal : Order → Type 0
  IsAboutReal o = (e : ℕ) → order_about o ≡ Some e → holders (loaded w B) e ≡ 1

  known_call : (p : Part) (c : CallData) → p ≡ c.part → IsFitCall h b c → IsAboutReal (passes_to p c)
  known_call p c is fit e at =
      let same : c.entity ≡ e = (let z = sym (about p c) ∙ at in cc) in
      subst (λ d. holders (loaded w B) d ≡ 1) same (present_one c.entity fit.made fit.present)

  no_known : IsAboutReal order.Tick
  no_known e at = absurd (let z = at in cc)

  fits : IsFitting (frame_of h t) w B
  fits = record {
    tree = R.tree;
    space = R.space;
    cells = fits_creating.cells;
    creates = creates;
    once = R.once;
    clients = all_turn (GetsClient b) (λ e. holders (loaded w B) e ≡ 1) (λ e g. present_one e g.made g.present) B.clients R.clients;
    unseen = all_turn (GetsClient b) (HasNoWitness w)
        (λ e g. unseen_by h b t w between goes R untouched e g.clientless) B.clients R.clients;
    one_each = R.one_each;
    destroys = all_turn (HasEntity b) (λ e. holders (loaded w B) e ≡ 1) (λ e g. present_one e g.0 g.1) B.destroys R.destroys;
    ends_once = R.ends_once;
    spares = spares;
    unmoved = unmoved;
    known = each_order h IsAboutReal (IsFitCall h b) known_call no_known b.current R.calls;
    calls = for_real;
    few = let a = few_orders h b.current in let c = few.lines in omega (arith, a, c);
    small = room.reals;
  }

  pub may_be_given : MayBeGiven (frame_of h t) w B
  may_be_given = record {
    reals = fits;
    parts = record {
      numbers = all_turn (IsNewEntity h b) (λ x. x.entity < most_entities) (λ x n. n.number) B.creates R.creates;
      calls = for_part;
      small = room.clients;
    };
  }
