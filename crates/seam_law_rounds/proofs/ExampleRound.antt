-- A whole round of an entity with a client: an opened world, a batch that creates it, and the events of calls and of looks.
use Rattle.seam_law_rounds.proofs.Prelude.{◌≡◌, ℕ, Bool, true, false, Option, None, Some, refl, sym, ap, ◌∙◌, subst, arith, option_map}
use Rattle.seam_law_rounds.proofs.Prelude.{slice_get, nat_cmp, Orders, order_or, Here, real_begins, RealView, PartView, holders, loaded}
use Rattle.seam_law_rounds.proofs.Prelude.{look_loaded, NodeView, empty_world, batch_1, first_0, first_2, first_look_0, first_look_5}
use Rattle.seam_law_rounds.proofs.Prelude.{first_steps, first_looks, slot_at, here_at, has_of, has_none, entity_flow, events_of, real_in}
use Rattle.seam_law_rounds.proofs.Prelude.{home_of, RunsTo, real_at, IsBetweenRounds, IsFitting, IsForReal, node_loaded, opening, IsForPart}
use Rattle.seam_law_rounds.proofs.Prelude.{FitsParts, HasPartsBetweenRounds, HasSmallNumbers, MayBeLoaded, computing, row_leads}
use Rattle.std.specs.List.{IsDistinct}
use Rattle.std.specs.FinMap as table
use Rattle.seam_node_steps.proofs.Views as views
use Rattle.seam_law_rounds.specs.Between.{NeverShown}
use Rattle.seam_law_rounds.proofs.Loaded.{slot_is}
use Rattle.seam_law_rounds.proofs.CallsEnd.{calls_end_between}
use Rattle.seam_law_rounds.proofs.Looking.{look_ends_between}
use Rattle.seam_law_rounds.proofs.PartLoads.{part_at}
use Rattle.seam_law_rounds.proofs.Joining.{is_among, peopled, real_in_node, real_joined, part_joined, made_peopled, new_peopled}
use Rattle.seam_law_rounds.proofs.Attaching.{real_if, real_from, part_if, part_from}
use Rattle.seam_law_rounds.proofs.ExampleOpening.{between, one_is_tree, is_new, no_real, parts_between}
use Rattle.seam_law_rounds.proofs.BaseCallsEnd.{calls_end_with_parts, calls_end_small}
use Rattle.seam_law_rounds.proofs.Calms.{look_ends_with_parts}

holder_is : holders (loaded empty_world batch_1) 1 ≡ 1
holder_is = simp computing

-- ---- what is loaded has no orders yet

abbrev HasNoOrders : RealView → Type 0
HasNoOrders r = r.orders ≡ table.empty

abbrev PartHasNoOrders : PartView → Type 0
PartHasNoOrders p = p.orders ≡ table.empty

real_none : (c : Bool) (h : Here) (q : RealView) → HasNoOrders q → HasNoOrders (real_begins (real_if c h q))
real_none true h q none = none
real_none false h q none = none

part_none : (c : Bool) (h : Here) (p : PartView) → PartHasNoOrders p → PartHasNoOrders (part_if c h p)
part_none true h p none = none
part_none false h p none = none

module _ (e k : ℕ) where
  new_at : (s : NodeView) → slice_get empty_world.nodes k ≡ Some s → has_of e s ≡ has_none
  new_at s at = sym (ap (slot_at (has_of e) has_none) at) ∙ is_new e k

  slot_there : (o : Option NodeView) → slice_get empty_world.nodes k ≡ o →
      (entity_flow e (loaded empty_world batch_1)).slot k ≡ slot_at (has_of e) has_none (option_map (node_loaded batch_1) o)
  slot_there o at = slot_is empty_world batch_1 e k ∙ ap (λ x. slot_at (has_of e) has_none (option_map (node_loaded batch_1) x)) at

  real_by : (o : Option NodeView) → slice_get empty_world.nodes k ≡ o → (r : RealView) →
      real_at e (loaded empty_world batch_1) k ≡ Some r → HasNoOrders r
  real_by None at r has = absurd (let z = sym (ap real_in (slot_there None at)) ∙ has in cc)
  real_by (Some s) at r has =
      let q =
      real_from (is_among e batch_1.clients) (here_at opening k) (real_in_node e (peopled batch_1 s)) r
      (sym (real_joined e opening batch_1 k s (between.nodes.nodes k s at)) ∙ (sym (ap real_in (slot_there (Some s) at)) ∙ has)) in
      subst HasNoOrders q.2
      (real_none (is_among e batch_1.clients) (here_at opening k) q.0
      (made_peopled e HasNoOrders (λ h x. refl) batch_1 s (ap real_in (new_at s at)) q.0 q.1))

  real_is_new : (r : RealView) → real_at e (loaded empty_world batch_1) k ≡ Some r → HasNoOrders r
  real_is_new = real_by (slice_get empty_world.nodes k) refl

  part_by : (o : Option NodeView) → slice_get empty_world.nodes k ≡ o → (p : PartView) →
      ((entity_flow e (loaded empty_world batch_1)).slot k).base.part ≡ Some p → PartHasNoOrders p
  part_by None at p has = absurd (let z = sym (ap (λ h. h.base.part) (slot_there None at)) ∙ has in cc)
  part_by (Some s) at p has =
      let q =
      part_from (is_among e batch_1.clients) (here_at opening k) (part_at e (peopled batch_1 s)) p
      (sym (part_joined e opening batch_1 k s (between.nodes.nodes k s at))
      ∙ (sym (ap (λ h. h.base.part) (slot_there (Some s) at)) ∙ has)) in
      subst PartHasNoOrders q.2
      (part_none (is_among e batch_1.clients) (here_at opening k) q.0
      (new_peopled e PartHasNoOrders (λ h ty. refl) batch_1 s (ap (λ h. h.base.part) (new_at s at)) q.0 q.1))

  part_is_new : (p : PartView) → ((entity_flow e (loaded empty_world batch_1)).slot k).base.part ≡ Some p → PartHasNoOrders p
  part_is_new = part_by (slice_get empty_world.nodes k) refl

pub next_is_one : (os : Orders) (s : ℕ) → os ≡ table.empty → (order_or (table.get os s)).next ≡ 1
next_is_one os s none = ap (λ o. (order_or (table.get o s)).next) none ∙ ap (λ o. (order_or o).next) (table.get-empty nat_cmp s)

-- ---- so the batch, which has no orders, fits

for_real : (e k : ℕ) (r : RealView) → real_at e (loaded empty_world batch_1) k ≡ Some r → IsForReal opening batch_1 e r
for_real e k r at = record {
  fit = tt;
  numbered = λ s.
      let one = next_is_one r.orders s (real_is_new e k r at) in
      record {
        node = 16;
        is_base = omega arith;
        in_net = omega arith;
        calls = refl;
        others = λ j n. refl;
        room = omega (arith, one);
      };
}

for_part : (e : ℕ) (p : PartView) → ((entity_flow e (loaded empty_world batch_1)).slot (home_of opening e)).base.part ≡ Some p →
    IsForPart opening batch_1 e p
for_part e p at = record {
  fit = tt;
  numbered = λ s.
      let one = next_is_one p.orders s (part_is_new e (home_of opening e) p at) in
      record {
        node = 16;
        is_base = omega arith;
        in_net = omega arith;
        calls = refl;
        others = λ j n. refl;
        room = omega (arith, one);
      };
}

none_shown : (x : ℕ) → NeverShown empty_world x
none_shown x e k r at = absurd (no_real e k r at)

fits : IsFitting opening empty_world batch_1
unfolding IsDistinct
fits = record {
  tree = one_is_tree;
  space = refl;
  cells = omega arith;
  creates = (
    record { new = is_new 1; unshown = none_shown 1; type = omega arith; inside = refl },
    (record { new = is_new 2; unshown = none_shown 2; type = omega arith; inside = refl }, tt),
  );
  once = ((refl, tt), (tt, tt));
  clients = (holder_is, tt);
  unseen = (λ k r at. absurd (no_real 1 k r at), tt);
  one_each = (tt, tt);
  destroys = tt;
  ends_once = tt;
  spares = tt;
  unmoved = tt;
  known = tt;
  calls = for_real;
  few = omega arith;
  small = λ e k r at. absurd (no_real e k r at);
}

brings : FitsParts opening empty_world batch_1
brings = record { numbers = (omega arith, (omega arith, tt)); calls = for_part; small = λ e k r at. absurd (no_real e k r at) }

pub may_be_loaded : MayBeLoaded opening empty_world batch_1
may_be_loaded = record { begin = record { between = between; fits = fits }; parts = parts_between; brings = brings }

-- ---- the events of its calls, and of its looks

pub round_leads : RunsTo (loaded empty_world batch_1) (events_of first_steps) first_2
round_leads =
    subst (λ w. RunsTo w (events_of first_steps) first_2) (sym views.first_load)
    (row_leads 2 1 first_0 first_steps views.first_row)

pub looks_lead : RunsTo (look_loaded first_2) (events_of first_looks) first_look_5
looks_lead =
    subst (λ w. RunsTo w (events_of first_looks) first_look_5) (sym views.first_look_load)
    (row_leads 2 1 first_look_0 first_looks views.first_look_row)

calls_between : IsBetweenRounds opening first_2
calls_between =
    calls_end_between opening empty_world batch_1 may_be_loaded.begin first_2 (events_of first_steps) round_leads views.first_quiet

calls_parts : HasPartsBetweenRounds opening first_2
calls_parts =
    calls_end_with_parts opening empty_world batch_1 may_be_loaded first_2 (events_of first_steps) round_leads views.first_quiet

calls_small : HasSmallNumbers opening first_2
calls_small = calls_end_small opening empty_world batch_1 may_be_loaded first_2 (events_of first_steps) round_leads

pub after_calls : IsBetweenRounds opening first_2 × HasPartsBetweenRounds opening first_2
after_calls = (calls_between, calls_parts)

pub after_looks : IsBetweenRounds opening first_look_5 × HasPartsBetweenRounds opening first_look_5
after_looks = (
  look_ends_between opening first_2 calls_between (events_of first_looks) first_look_5 looks_lead views.first_look_quiet,
  look_ends_with_parts opening first_2 calls_between calls_parts calls_small (events_of first_looks) first_look_5 looks_lead
      views.first_look_quiet,
)
