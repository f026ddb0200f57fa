-- The item that waits alone and is fed before all others.
use Rattle.std.proofs.Common.{◌≡◌, ◌≢◌, ℕ, ◌<◌, ◌≤◌, List, [], ◌∷◌, ◌++◌, length, Option, None, Some, get_or}
use Rattle.std.proofs.Common.{set, drop, cond, refl, sym, ap, ◌∙◌, subst, arith}
use Rattle.std.proofs.lemmas.List.{set-set, set-get_or, get_or-set_same, append-nil}
use Rattle.std.proofs.lemmas.List.Elements.{All-head}
use Rattle.seam_machine.specs.Sends.{items_to, AllBelow}
use Rattle.seam_machine.specs.Nets.{link, send_all, row_less, rows_less, input_from, rows_after_feeding}
use Rattle.seam_machine.specs.Events.{link_added}
use Rattle.seam_machine.specs.Inside.{waits, HasInput, IsAhead, IsFirst, IsFed, IsLinks, AreCounted}
use Rattle.seam_machine.specs.declared.machines.Input.{Input}
use Rattle.seam_machine.specs.declared.machines.Input.TheVariants.{Task, From}
use Rattle.seam_machine.proofs.Digits.{marked_none}
use Rattle.seam_machine.proofs.LinkLemmas.{sender_within, link-view, idle, filled_none}
use Rattle.seam_machine.proofs.Puts.{equal_is, apart_is}

-- a node that sent something is one of at most 255
pub sender_few : {M : Type 0} (rows : List (List (List M))) (busy : List ℕ) (sender : ℕ) (target : Option ℕ) (i : Input M)
    (others : List (ℕ × M)) → IsLinks rows busy sender (waits target i others) → 0 < length others → sender < 256
sender_few rows busy sender None i [] q lt = absurd (omega (arith, lt))
sender_few rows busy sender None i (p ∷ ps) q lt =
    let h = sender_within rows busy sender (p ∷ ps) q refl in
    omega (arith, h, q.few)
sender_few rows busy sender (Some to) Task [] q lt = absurd (omega (arith, lt))
sender_few rows busy sender (Some to) Task (p ∷ ps) q lt =
    let h = sender_within rows busy sender (p ∷ ps) q refl in
    omega (arith, h, q.few)
sender_few rows busy sender (Some to) (From a m) others q lt =
    let h = sender_within rows busy sender ((to, m) ∷ others) q refl in
    omega (arith, h, q.few)

pub has_input : {M : Type 0} (target : Option ℕ) (i : Input M) (sender : ℕ) (others : List (ℕ × M)) (words : List ℕ) →
    IsAhead target i sender others words → HasInput target i
has_input None i sender others words h = tt
has_input (Some to) Task sender others words h = h
has_input (Some to) (From a m) sender others words h = tt

-- a link that held nothing, after an item was sent and fed
less_one : {M : Type 0} (row : List (List M)) (to : ℕ) (m : M) → to < length row → get_or row to [] ≡ [] →
    row_less (set row to (get_or row to [] ++ m ∷ [])) to ≡ row
less_one row to m within none =
    let there : get_or (set row to (get_or row to [] ++ m ∷ [])) to [] ≡ m ∷ [] =
    get_or-set_same row to (get_or row to [] ++ m ∷ []) [] within ∙ ap (λ l. l ++ m ∷ []) none in
    ap (λ l. set (set row to (get_or row to [] ++ m ∷ [])) to (drop 1 l)) there
    ∙ (set-set row to (get_or row to [] ++ m ∷ []) [] ∙ (ap (set row to) (sym none) ∙ set-get_or row to []))

pub less_sent : {M : Type 0} (rows : List (List (List M))) (a to : ℕ) (m : M) → a < length rows → to < length (get_or rows a []) →
    link rows a to ≡ [] → rows_less (send_all rows a ((to, m) ∷ [])) a to ≡ rows
less_sent rows a to m lt within none =
    let row = get_or rows a [] in
    let put = set row to (get_or row to [] ++ m ∷ []) in
    ap (λ r. set (set rows a put) a (row_less r to)) (get_or-set_same rows a put [] lt)
    ∙ (set-set rows a put (row_less put to) ∙ (ap (set rows a) (less_one row to m within none) ∙ set-get_or rows a []))

module _ {M : Type 0} (rows : List (List (List M))) (busy words : List ℕ) (sender : ℕ) (target : Option ℕ) (i : Input M)
    (others : List (ℕ × M)) (q : IsLinks rows busy sender (waits target i others)) (counted : AreCounted words busy)
    (ahead : IsAhead target i sender others words) (to a : ℕ) (m : M) (there : target ≡ Some to) (is : i ≡ From a m) where
  first : IsFirst a to sender others words
  first = subst (λ j. IsAhead (Some to) j sender others words) is (subst (λ t. IsAhead t i sender others words) there ahead)

  pub alone : others ≡ []
  alone = first.alone

  one : waits target i others ≡ (to, m) ∷ []
  one = ap (λ t. waits t i others) there ∙ (ap (λ j. waits (Some to) j others) is ∙ ap (λ o. (to, m) ∷ o) first.alone)

  pub target_in : to < length rows
  target_in = All-head (λ p. p.0 < length rows) (to, m) [] (subst (AllBelow (length rows)) one q.targets)

  empty_to : (b : ℕ) → b ≤ to → (x : ℕ) → link rows x b ≡ []
  empty_to b le x =
      let lt : b < length rows = omega (arith, le, target_in) in
      filled_none b rows (sym (q.busy_is b lt) ∙ marked_none words busy counted b (first.unmarked b le)) x

  pub holds_one : link (send_all rows sender (waits target i others)) a to ≡ m ∷ []
  holds_one =
      link-view rows busy sender (waits target i others) q a to
      ∙ (ap (λ l. l ++ link_added sender (waits target i others) a to) (empty_to to (omega arith) a)
      ∙ (ap (λ t. cond t (items_to to (waits target i others)) []) (equal_is a sender first.sent_by)
      ∙ (ap (items_to to) one ∙ ap (λ t. cond t (m ∷ []) []) (equal_is to to refl))))

  pub none_lower : (j x : ℕ) → j < to → link (send_all rows sender (waits target i others)) x j ≡ []
  none_lower j x lt =
      let within : j < length rows = omega (arith, lt, target_in) in
      let apart : to ≢ j = λ e. omega (arith, lt, e) in
      let other : length (items_to j (waits target i others)) ≡ 0 =
      ap (λ o. length (items_to j o)) one ∙ ap (λ t. length (cond t (m ∷ []) [])) (apart_is to j apart) in
      idle rows busy sender (waits target i others) q j (omega (arith, within, q.busy_len))
      (marked_none words busy counted j (first.unmarked j (omega (arith, lt)))) other x

  pub none_before : (x : ℕ) → x < a → link (send_all rows sender (waits target i others)) x to ≡ []
  none_before x lt =
      let apart : x ≢ sender = λ e. omega (arith, lt, e, first.sent_by) in
      link-view rows busy sender (waits target i others) q x to
      ∙ (ap (λ t. link rows x to ++ cond t (items_to to (waits target i others)) []) (apart_is x sender apart)
      ∙ (append-nil (link rows x to) ∙ empty_to to (omega arith) x))

  sender_in : sender < length rows
  sender_in = q.sender_in (omega (arith, target_in))

  pub fed_rows : rows_less (send_all rows sender (waits target i others)) a to ≡ rows
  fed_rows =
      let within : to < length (get_or rows sender []) = omega (arith, target_in, q.square sender [] sender_in) in
      rw (one, first.sent_by) (less_sent rows sender to m sender_in within (empty_to to (omega arith) sender))

  pub is_fed : (from : Option ℕ) → from ≡ Some a → input_from (send_all rows sender (waits target i others)) to from ≡ Some i
  is_fed from f = rw (f, holds_one, is) refl

  pub left : (from : Option ℕ) → from ≡ Some a → rows_after_feeding (send_all rows sender (waits target i others)) to from ≡ rows
  left from f = rw f fed_rows

-- what an event feeds that feeds the item
pub fed_parts : {M : Type 0} (target : Option ℕ) (i : Input M) (node : ℕ) (from : Option ℕ) → IsFed target i node from →
    (a : ℕ) × (m : M) × (target ≡ Some node) × (i ≡ From a m) × (from ≡ Some a)
fed_parts None i node from e = absurd e
fed_parts (Some to) Task node from e = absurd e
fed_parts (Some to) (From a m) node from e = (a, m, ap Some (sym e.0), refl, e.1)

-- where nothing waits, no node is fed before all others
pub no_target : {M : Type 0} (target : Option ℕ) (i : Input M) (sender : ℕ) (others : List (ℕ × M)) (words : List ℕ) →
    IsAhead target i sender others words → waits target i others ≡ [] → target ≡ None
no_target None i sender others words h e = refl
no_target (Some to) Task sender others words h e = absurd h
no_target (Some to) (From a m) sender others words h e = cc

pub none_ahead : {M : Type 0} (target : Option ℕ) (i : Input M) (sender : ℕ) (others : List (ℕ × M)) (words : List ℕ) → target ≡ None →
    IsAhead target i sender others words
none_ahead target i sender others words is = rw is tt

-- the links after the item was fed, where its node sent other items
pub links_fed : {M : Type 0} (rows : List (List (List M))) (busy : List ℕ) (sender : ℕ) (out out' : List (ℕ × M)) →
    IsLinks rows busy sender out → (to : ℕ) → to < length rows → AllBelow (length rows) out' → IsLinks rows busy to out'
links_fed rows busy sender out out' q to within below = record {
  few = q.few;
  square = q.square;
  busy_len = q.busy_len;
  busy_is = q.busy_is;
  targets = below;
  sender_in = λ _. within;
}
