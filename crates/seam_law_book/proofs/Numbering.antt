-- Each sender's calls of the open round are at one base node, under the numbers that are next.
use Rattle.seam_law_book.proofs.Prelude.{◌≡◌, ℕ, ◌+◌, ◌%◌, ◌<◌, ◌≤◌, Bool, true, false, cond, List, [], ◌∷◌, map, length, Option, suc, Some}
use Rattle.seam_law_book.proofs.Prelude.{None, refl, sym, ap, ◌∙◌, subst, arith, inl, inr, append-nil, length-append, ◌==◌, ◌&&◌}
use Rattle.seam_law_book.proofs.Prelude.{AllByRecursion, cases_eq, eq-eqb, ne_eqb, map-id, mod-lt, items_to, Part, Division, is_for}
use Rattle.seam_law_book.proofs.Prelude.{same_part, rank_of, Sender, Call as CallData, Order, cell_count, limit, Header, Book, entries}
use Rattle.seam_law_book.proofs.Prelude.{calls_of, Entry, letters_of, more_letter, number_from, kept_if, orders_of, from_sender}
use Rattle.seam_law_book.proofs.Prelude.{numbered_from, cell_order_from, base_call_of, order_in, cell_call_from, AreNumbered, base_calls_of}
use Rattle.seam_law_book.proofs.Prelude.{AreBaseNumbered, as_begun, IsSenderOf, IsFitCall, calls_from, last_number, AreNumberedFrom}
use Rattle.seam_law_book.proofs.Prelude.{HasFitRound, frame_of, HasRoomForCalls, node_of, passes_to, batch_of}
use Rattle.seam_defs.specs.declared.flags.Part.TheVariants as part
use Rattle.seam_call.specs.declared.sender.Sender.TheVariants as sender
use Rattle.seam_call.specs.declared.order.Order.TheVariants as order
use Rattle.seam_rule_lines.specs.declared.verdict.Entry.TheVariants as entry
use Rattle.seam_law_rounds.specs.Between as core
use Rattle.seam_law_book.proofs.Orders.{all_picked, picked_at}

-- ---- the node of a sender

node_bounds : (h : Header) → 1 ≤ h.settings.bases → (s : Sender) → IsSenderOf h s →
    (cell_count ≤ node_of h s) × (node_of h s < cell_count + h.settings.bases)
node_bounds h some (sender.Base n) k =
    let from = k.node.from_one in
    let within = k.within in
    (omega (arith, from), omega (arith, from, within))
node_bounds h some (sender.Client e) k =
    let low : e % h.settings.bases < h.settings.bases = mod-lt e {m = h.settings.bases} (omega (arith, some)) in
    (omega arith, omega (arith, low))

same_node : (h : Header) (s u : Sender) → IsSenderOf h s → IsSenderOf h u → rank_of s ≡ rank_of u → node_of h s ≡ node_of h u
same_node h (sender.Base m) (sender.Base n) k l same = ap (λ x. node_of h (sender.Base x)) same
same_node h (sender.Client d) (sender.Client e) k l same =
    let is : d ≡ e = omega (arith, same) in
    ap (λ x. node_of h (sender.Client x)) is
same_node h (sender.Base m) (sender.Client e) k l same = let most = k.node.most in absurd (omega (arith, same, most))
same_node h (sender.Client d) (sender.Base n) k l same = let most = l.node.most in absurd (omega (arith, same, most))

-- one node for the calls of the sender of a place
pub record HasOneNode (h : Header) (s : ℕ) (cs : List CallData) : Type 0 where
  pub node : ℕ
  pub is_base : cell_count ≤ node
  pub in_net : node < cell_count + h.settings.bases
  pub all : AllByRecursion (λ c. rank_of c.sender ≡ s → node_of h c.sender ≡ node) cs

abbrev IsKnown : Header → CallData → Type 0
IsKnown h c = IsSenderOf h c.sender

all_like : (h : Header) (s : ℕ) (u : Sender) → IsSenderOf h u → rank_of u ≡ s → (cs : List CallData) → AllByRecursion (IsKnown h) cs →
    AllByRecursion (λ c. rank_of c.sender ≡ s → node_of h c.sender ≡ node_of h u) cs
all_like h s u k is [] known = tt
all_like h s u k is (c ∷ cs) known =
    ((λ same. same_node h c.sender u known.0 k (same ∙ sym is)), all_like h s u k is cs known.1)

one_node : (h : Header) → 1 ≤ h.settings.bases → (s : ℕ) (cs : List CallData) → AllByRecursion (IsKnown h) cs → HasOneNode h s cs
one_node h some s [] known = record { node = cell_count; is_base = omega arith; in_net = omega (arith, some); all = tt }
one_node h some s (c ∷ cs) known = elim (cases_eq (rank_of c.sender) s) [
  | inl is ↦
      let two = node_bounds h some c.sender known.0 in
      record {
        node = node_of h c.sender;
        is_base = two.0;
        in_net = two.1;
        all = ((λ same. refl), all_like h s c.sender known.0 is cs known.1);
      }
  | inr n ↦
      let rest = one_node h some s cs known.1 in
      record { node = rest.node; is_base = rest.is_base; in_net = rest.in_net; all = ((λ same. absurd (n same)), rest.all) }
]

-- ---- lists

abbrev with_number : CallData → ℕ × CallData
with_number c = (c.number, c)

numbered_are : (n : ℕ) (cs : List CallData) → AreNumberedFrom n cs → map with_number cs ≡ number_from n cs
numbered_are n [] h = refl
numbered_are n (c ∷ cs) h = ap (λ m. (m, c) ∷ map with_number cs) h.0 ∙ ap (λ l. (n, c) ∷ l) (numbered_are (n + 1) cs h.1)

-- letters of letters
abbrev and_then : {B C : Type 0} → Option B → (B → Option C) → Option C
and_then None g = None
and_then (Some x) g = g x

then_by : {B C : Type 0} (g : B → Option C) (o : Option B) (ys : List B) (zs : List C) → letters_of g ys ≡ zs →
    letters_of g (more_letter o ys) ≡ more_letter (and_then o g) zs
then_by g None ys zs is = is
then_by g (Some y) ys zs is = ap (more_letter (g y)) is

letters_then : {A B C : Type 0} (f : A → Option B) (g : B → Option C) (xs : List A) →
    letters_of g (letters_of f xs) ≡ letters_of (λ x. and_then (f x) g) xs
letters_then f g [] = refl
letters_then f g (x ∷ xs) = then_by g (f x) (letters_of f xs) (letters_of (λ y. and_then (f y) g) xs) (letters_then f g xs)

-- there are no more calls than entries
few_by : (t : Bool) (c : CallData) (cs : List CallData) (n : ℕ) → length cs ≤ n → length (cond t (c ∷ cs) cs) ≤ suc n
few_by true c cs n le = omega (arith, le)
few_by false c cs n le = omega (arith, le)

few_calls : (p : Part) (e s : ℕ) (xs : List Entry) → length (calls_from p e s (calls_of xs)) ≤ length xs
few_calls p e s [] = omega arith
few_calls p e s (entry.Called c ∷ xs) =
    few_by (is_for p e c && (rank_of c.sender == s)) c (calls_from p e s (calls_of xs)) (length xs) (few_calls p e s xs)
few_calls p e s (_ ∷ xs) = let le = few_calls p e s xs in omega (arith, le)

-- ---- the open round

abbrev same_call : CallData → CallData
same_call c = c

known_of : (h : Header) (b : Book) (cs : List CallData) → AllByRecursion (IsFitCall h b) cs → AllByRecursion (IsKnown h) cs
known_of h b [] all = tt
known_of h b (c ∷ cs) all = (all.0.sender, known_of h b cs all.1)

module _ (h : Header) (some : 1 ≤ h.settings.bases) (b : Book) (R : HasFitRound h b) (few : HasRoomForCalls b) where
  module _ (p : Part) (e s : ℕ) where
    abbrev chosen : List CallData
    chosen = calls_from p e s (calls_of b.current)

    abbrev next : ℕ
    next = last_number (as_begun b) p e s + 1

    pub its : HasOneNode h s (calls_of b.current)
    its = one_node h some s (calls_of b.current) (known_of h b (calls_of b.current) R.calls)

    room : next + length chosen < limit
    room =
        let before = few_calls p e s (entries (as_begun b)) in
        let now = few_calls p e s b.current in
        let none = ap length (append-nil b.past) in
        let all = length-append b.past b.current in
        let most = few.entries_ in
        omega (arith, before, now, none, all, most)

    numbers : map with_number chosen ≡ number_from next chosen
    numbers = numbered_are next chosen (R.numbered p e s)

    -- what one sees of the orders, if one picks these calls from them
    module _ (pick : Order → Option CallData) (pick_numbered : Order → Option (ℕ × CallData))
        (picks : (q : Part) (c : CallData) → pick (passes_to q c) ≡ kept_if (same_part q p && (rank_of c.sender == s)) (same_call c))
        (picks_numbered : (q : Part) (c : CallData) →
        pick_numbered (passes_to q c) ≡ kept_if (same_part q p && (rank_of c.sender == s)) (with_number c))
        (none : pick order.Tick ≡ None) (none_numbered : pick_numbered order.Tick ≡ None) where
      pub all_are : letters_of pick (orders_of e (map order_in (batch_of h b).orders)) ≡ chosen
      all_are = all_picked h p e s pick same_call picks none b.current ∙ map-id chosen

      pub given_are : letters_of pick_numbered (orders_of e (items_to its.node (batch_of h b).orders)) ≡ number_from next chosen
      given_are =
          picked_at h p e s pick_numbered with_number picks_numbered none_numbered its.node its.node b.current its.all
          ∙ ap (λ t. cond t (map with_number chosen) []) (eq-eqb its.node its.node refl) ∙ numbers

      pub no_others : (j : ℕ) → (j ≡ its.node → ⊥) → letters_of pick_numbered (orders_of e (items_to j (batch_of h b).orders)) ≡ []
      no_others j n =
          picked_at h p e s pick_numbered with_number picks_numbered none_numbered its.node j b.current its.all
          ∙ ap (λ t. cond t (map with_number chosen) []) (ne_eqb its.node j (λ is. n (sym is)))

  -- ---- calls to cell parts

  module _ (t : Division) (e s : ℕ) where
    cell_picks : (q : Part) (c : CallData) →
        cell_call_from s (passes_to q c) ≡ kept_if (same_part q part.Cell && (rank_of c.sender == s)) (same_call c)
    cell_picks part.Cell c = refl
    cell_picks part.Base c = refl

    cell_picks_numbered : (q : Part) (c : CallData) →
        cell_order_from s (passes_to q c) ≡ kept_if (same_part q part.Cell && (rank_of c.sender == s)) (with_number c)
    cell_picks_numbered part.Cell c = refl
    cell_picks_numbered part.Base c = refl

    pub cell_calls : core.calls_of (batch_of h b) e s ≡ chosen part.Cell e s
    cell_calls =
        all_are part.Cell e s (cell_call_from s) (cell_order_from s) cell_picks cell_picks_numbered refl refl

    pub cell_numbered : (first : ℕ) → first ≡ next part.Cell e s → AreNumbered (frame_of h t) (batch_of h b) e s first
    cell_numbered first is = subst (AreNumbered (frame_of h t) (batch_of h b) e s) (sym is) (record {
      node = (its part.Cell e s).node;
      is_base = (its part.Cell e s).is_base;
      in_net = (its part.Cell e s).in_net;
      calls =
          given_are part.Cell e s (cell_call_from s) (cell_order_from s) cell_picks cell_picks_numbered refl refl
          ∙ sym (ap (number_from (next part.Cell e s)) cell_calls);
      others = no_others part.Cell e s (cell_call_from s) (cell_order_from s) cell_picks cell_picks_numbered refl refl;
      room = let len = ap length cell_calls in let low = room part.Cell e s in omega (arith, len, low);
    })

    -- ---- and to base parts

    abbrev base_pick : Order → Option CallData
    base_pick o = and_then (base_call_of o) (from_sender s)

    abbrev base_pick_numbered : Order → Option (ℕ × CallData)
    base_pick_numbered o = and_then (base_call_of o) (numbered_from s)

    base_picks : (q : Part) (c : CallData) →
        base_pick (passes_to q c) ≡ kept_if (same_part q part.Base && (rank_of c.sender == s)) (same_call c)
    base_picks part.Cell c = refl
    base_picks part.Base c = refl

    base_picks_numbered : (q : Part) (c : CallData) →
        base_pick_numbered (passes_to q c) ≡ kept_if (same_part q part.Base && (rank_of c.sender == s)) (with_number c)
    base_picks_numbered part.Cell c = refl
    base_picks_numbered part.Base c = refl

    no_tick : base_pick order.Tick ≡ None
    no_tick = refl

    no_tick_numbered : base_pick_numbered order.Tick ≡ None
    no_tick_numbered = refl

    pub base_calls : base_calls_of (batch_of h b) e s ≡ chosen part.Base e s
    base_calls =
        letters_then base_call_of (from_sender s) (orders_of e (map order_in (batch_of h b).orders))
        ∙ all_are part.Base e s base_pick base_pick_numbered base_picks base_picks_numbered no_tick no_tick_numbered

    pub base_numbered : (first : ℕ) → first ≡ next part.Base e s → AreBaseNumbered (frame_of h t) (batch_of h b) e s first
    base_numbered first is = subst (AreBaseNumbered (frame_of h t) (batch_of h b) e s) (sym is) (record {
      node = (its part.Base e s).node;
      is_base = (its part.Base e s).is_base;
      in_net = (its part.Base e s).in_net;
      calls =
          letters_then base_call_of (numbered_from s) (orders_of e (items_to (its part.Base e s).node (batch_of h b).orders))
          ∙ given_are part.Base e s base_pick base_pick_numbered base_picks base_picks_numbered no_tick no_tick_numbered
          ∙ sym (ap (number_from (next part.Base e s)) base_calls);
      others = λ j n. letters_then base_call_of (numbered_from s) (orders_of e (items_to j (batch_of h b).orders))
          ∙ no_others part.Base e s base_pick base_pick_numbered base_picks base_picks_numbered no_tick no_tick_numbered j n;
      room = let len = ap length base_calls in let low = room part.Base e s in omega (arith, len, low);
    })
