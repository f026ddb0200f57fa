-- The points about clients, by what the code decides of each part of them.
use Rattle.std.proofs.Common.{◌≡◌, ◌+◌, ◌++◌, ℕ, Bool, true, false, List, [], length, map, Bor, refl, sym, ap, ◌∙◌, subst, IsTrue, IsFalse}
use Rattle.std.proofs.Common.{◌↔◌, ◌||◌}
use Rattle.std.specs.Prelude.{filter, ◌==◌}
use Rattle.std.specs.List.{All, range_with_len}
use Rattle.std.specs.List.Sorted.{IsNonDecreasing}
use Rattle.std.proofs.lemmas.List.{length-map}
use Rattle.seam_rule_rounds.specs.Prelude.{Create, Header, shown_by_lines, ShowsRightly, one_look, is_shown, has_tick, Lists, rows_of}
use Rattle.seam_rule_rounds.specs.Prelude.{Standing, replica_of, ClientLine, RoundData, lines_to, told_in, truth_of, is_base, texts_to}
use Rattle.seam_rule_rounds.specs.Prelude.{base_texts, base_shown, base_versions, ShowsClient, HasShown, HasLooked}
use Rattle.seam_call.specs.declared.shown.Line.{Line}
use Rattle.seam_call.specs.declared.shown.ClientText.TheVariants as text
use Rattle.seam_judge_data.specs.Standings.{standing_of}
use Rattle.seam_judge_data.specs.declared.standing.Standing as plain
use Rattle.seam_judge_rounds.specs.After.{after_round}
use Rattle.seam_judge_rounds.specs.RoundClients.{client_as, AddsLines, ShowsLines}
use Rattle.seam_judge_rounds.proofs.ClientLists.{each_client, told_each}
use Rattle.seam_judge_rounds.proofs.Told.{all_now}

-- ---- one client

module _ (h : Header) (s : Standing) (r : RoundData) (t : Standing) (c : Create) (lines : List (Bor ClientLine)) (told : List (Bor Line))
    (lines_are : map (λ l. l.now) lines ≡ lines_to r c.entity) (told_are : map (λ l. l.now) told
    ≡ map (λ l. l.line) (map (λ l. l.now) lines))
  where
    told_is : map (λ l. l.now) told ≡ told_in r c.entity
    told_is = told_are ∙ ap (map (λ (l : ClientLine). l.line)) lines_are

    numbers_is : (numbers : List ℕ) → numbers ≡ map (λ l. l.number) (map (λ l. l.now) told) →
        numbers ≡ map (λ (l : Line). l.number) (told_in r c.entity)
    numbers_is numbers are = are ∙ ap (map (λ (l : Line). l.number)) told_is

    long : (numbers : List ℕ) → numbers ≡ map (λ l. l.number) (map (λ l. l.now) told) → length numbers ≡ length (told_in r c.entity)
    long numbers are = ap length (numbers_is numbers are) ∙ length-map (told_in r c.entity) (λ l. l.number)

    pub client_decided : (n : ℕ) (numbers : List ℕ) (typed numbered right bases first second all : Bool) → n ≡ length (s.told c.entity) →
        numbers ≡ map (λ l. l.number) (map (λ l. l.now) told) →
        (IsTrue typed ↔ All (λ (l : Bor ClientLine). l.now.ty ≡ c.ty) lines) →
        (IsTrue numbered ↔ (numbers ≡ range_with_len (n + 1) (length numbers))) →
        (IsTrue right ↔ ShowsRightly (truth_of h s t c) c.entity (replica_of h s c.entity) (shown_by_lines (map (λ l. l.now) told))) →
        (IsTrue bases ↔ (filter is_base (map (λ l. l.text) (map (λ l. l.now) told)) ≡ map (base_shown h t c) (base_versions h s t c))) →
        (IsTrue first ↔ (IsTrue typed × IsTrue numbered)) → (IsTrue second ↔ (IsTrue right × IsTrue bases)) →
        (IsTrue all ↔ (IsTrue first × IsTrue second)) → (IsTrue all ↔ ShowsClient h s r t c)
    client_decided n numbers typed numbered right bases first second all former numbers_are at_typed at_numbered at_right at_bases at_first
        at_second at_all = (
          (λ so.
              let two = at_all.0 so in
              let one = at_first.0 two.0 in
              let other = at_second.0 two.1 in record {
                types = subst (All (λ (l : ClientLine). l.ty ≡ c.ty)) lines_are
                    ((all_now (λ (l : ClientLine). l.ty ≡ c.ty) lines).0 (at_typed.0 one.0));
                numbers = sym (numbers_is numbers numbers_are) ∙ at_numbered.0 one.1
                    ∙ (λ i. range_with_len (former i + 1) (long numbers numbers_are i));
                right = subst
                    (λ (ls : List Line). ShowsRightly (truth_of h s t c) c.entity (replica_of h s c.entity) (shown_by_lines ls)) told_is
                    (at_right.0 other.0);
                bases = ap (λ (ls : List Line). filter is_base (map (λ l. l.text) ls)) (sym told_is) ∙ at_bases.0 other.1;
              }),
          (λ shows. at_all.1 (
            at_first.1 (
              at_typed.1 ((all_now (λ (l : ClientLine). l.ty ≡ c.ty) lines).1
                  (subst (All (λ (l : ClientLine). l.ty ≡ c.ty)) (sym lines_are) shows.types)),
              at_numbered.1 (numbers_is numbers numbers_are ∙ shows.numbers
                  ∙ (λ i. range_with_len (sym former i + 1) (sym (long numbers numbers_are) i))),
            ),
            at_second.1 (
              at_right.1 (subst (λ (ls : List Line). ShowsRightly (truth_of h s t c) c.entity (replica_of h s c.entity) (shown_by_lines ls))
                  (sym told_is) shows.right),
              at_bases.1 (ap (λ (ls : List Line). filter is_base (map (λ l. l.text) ls)) told_is ∙ shows.bases),
            ),
          )),
        )

-- the same of equal lists
pub typed_of : (c : Create) (lines others : List (Bor ClientLine)) (b : Bool) → others ≡ lines →
    (IsTrue b ↔ All (λ (l : Bor ClientLine). l.now.ty ≡ c.ty) others) → (IsTrue b ↔ All (λ (l : Bor ClientLine). l.now.ty ≡ c.ty) lines)
typed_of c lines others b same decides =
    subst (λ (ls : List (Bor ClientLine)). IsTrue b ↔ All (λ (l : Bor ClientLine). l.now.ty ≡ c.ty) ls) same decides

pub right_of : (h : Header) (s t : Standing) (c : Create) (told others : List (Bor Line)) (b : Bool) → others ≡ told →
    (IsTrue b ↔ ShowsRightly (truth_of h s t c) c.entity (replica_of h s c.entity) (shown_by_lines (map (λ l. l.now) others))) →
    (IsTrue b ↔ ShowsRightly (truth_of h s t c) c.entity (replica_of h s c.entity) (shown_by_lines (map (λ l. l.now) told)))
right_of h s t c told others b same decides =
    subst (λ (ls : List (Bor Line)).
    IsTrue b ↔ ShowsRightly (truth_of h s t c) c.entity (replica_of h s c.entity) (shown_by_lines (map (λ l. l.now) ls))) same decides

pub bases_of : (h : Header) (s t : Standing) (c : Create) (told others : List (Bor Line)) (b : Bool) → others ≡ told →
    (IsTrue b ↔ (filter is_base (map (λ l. l.text) (map (λ l. l.now) others)) ≡ map (base_shown h t c) (base_versions h s t c))) →
    (IsTrue b ↔ (filter is_base (map (λ l. l.text) (map (λ l. l.now) told)) ≡ map (base_shown h t c) (base_versions h s t c)))
bases_of h s t c told others b same decides =
    subst (λ (ls : List (Bor Line)).
    IsTrue b ↔ (filter is_base (map (λ l. l.text) (map (λ l. l.now) ls)) ≡ map (base_shown h t c) (base_versions h s t c))) same decides

-- ---- all clients

pub rise_of : (r : RoundData) (numbers : List ℕ) (b : Bool) → numbers ≡ map (λ l. l.entity) r.shown → (IsTrue b ↔ IsNonDecreasing numbers) →
    (IsTrue b ↔ IsNonDecreasing (map (λ l. l.entity) r.shown))
rise_of r numbers b same decides = subst (λ (ns : List ℕ). IsTrue b ↔ IsNonDecreasing ns) same decides

pub only_of : (s : Standing) (r : RoundData) (lines : List ClientLine) (b : Bool) → lines ≡ r.shown →
    (IsTrue b ↔ All (λ (l : ClientLine). IsTrue (is_shown s.book l.entity)) lines) →
    (IsTrue b ↔ All (λ (l : ClientLine). IsTrue (is_shown s.book l.entity)) r.shown)
only_of s r lines b same decides =
    subst (λ (ls : List ClientLine). IsTrue b ↔ All (λ (l : ClientLine). IsTrue (is_shown s.book l.entity)) ls) same decides

-- what each client was told
module _ (s t : plain.Standing) (r : RoundData) (before after shown : List ClientLine) (before_is : before ≡ s.told.items)
    (after_is : after ≡ t.told.items) (shown_is : shown ≡ r.shown)
  where
    abbrev pub Told : ℕ → Type 0
    Told e = AddsLines (standing_of s) r (standing_of t) e

    none_told : (e : ℕ) → filter (λ (l : ClientLine). l.entity == e) before ≡ [] → filter (λ (l : ClientLine). l.entity == e) after ≡ [] →
        filter (λ (l : ClientLine). l.entity == e) shown ≡ [] → Told e
    none_told e no_former no_later no_shown =
        let lines : List ClientLine → List Line = λ (ls : List ClientLine). map (λ l. l.line) ls in
        ap lines (ap (filter (λ (l : ClientLine). l.entity == e)) (sym after_is) ∙ no_later)
        ∙ sym (λ i. lines ((ap (filter (λ (l : ClientLine). l.entity == e)) (sym before_is) ∙ no_former) i)
        ++ lines ((ap (filter (λ (l : ClientLine). l.entity == e)) (sym shown_is) ∙ no_shown) i))

    pub told_decided : (x y z w v : Bool) → (IsTrue x ↔ All (λ (l : ClientLine). Told l.entity) before) →
        (IsTrue y ↔ All (λ (l : ClientLine). Told l.entity) after) → (IsTrue z ↔ All (λ (l : ClientLine). Told l.entity) shown) →
        (IsTrue w ↔ (IsTrue y × IsTrue z)) → (IsTrue v ↔ (IsTrue x × IsTrue w)) → (IsTrue v ↔ ((e : ℕ) → Told e))
    told_decided x y z w v at_x at_y at_z at_w at_v = (
      (λ so.
          let two = at_v.0 so in
          let rest = at_w.0 two.1 in
          told_each Told before after shown none_told (at_x.0 two.0) (at_y.0 rest.0) (at_z.0 rest.1)),
      (λ each. at_v.1 (at_x.1 (λ k d within. each _), at_w.1 (at_y.1 (λ k d within. each _), at_z.1 (λ k d within. each _)))),
    )

module _ (h : Header) (s : Standing) (r : RoundData) (t : Standing) (clients : List Create) where
  pub lines_decided : (rise only each first all : Bool) → (IsTrue rise ↔ IsNonDecreasing (map (λ l. l.entity) r.shown)) →
      (IsTrue only ↔ All (λ (l : ClientLine). IsTrue (is_shown s.book l.entity)) r.shown) →
      (IsTrue each ↔ All (ShowsClient h s r t) clients) → (IsTrue first ↔ (IsTrue rise × IsTrue only)) →
      (IsTrue all ↔ (IsTrue first × IsTrue each)) → (IsTrue all ↔ ShowsLines h s r t clients)
  lines_decided rise only each first all at_rise at_only at_each at_first at_all = (
    (λ so.
        let two = at_all.0 so in
        let one = at_first.0 two.0 in
        (at_rise.0 one.0, at_only.0 one.1, at_each.0 two.1)),
    (λ shows. at_all.1 (at_first.1 (at_rise.1 shows.0, at_only.1 shows.1), at_each.1 shows.2)),
  )

  module _ (listed : Lists (client_as s.book) clients) where
    shown_from : ShowsLines h s r t clients → ((e : ℕ) → AddsLines s r t e) → HasShown h s r t
    shown_from lines told = record {
      rising = lines.0;
      only = lines.1;
      each = (each_client s.book clients listed (ShowsClient h s r t)).0 lines.2;
      told = told;
    }

    lines_from : HasShown h s r t → ShowsLines h s r t clients
    lines_from shown = (shown.rising, shown.only, (each_client s.book clients listed (ShowsClient h s r t)).1 shown.each)

    pub shown_decided : (rightly told all : Bool) → (IsTrue rightly ↔ ShowsLines h s r t clients) →
        (IsTrue told ↔ ((e : ℕ) → AddsLines s r t e)) → (IsTrue all ↔ (IsTrue rightly × IsTrue told)) → (IsTrue all ↔ HasShown h s r t)
    shown_decided rightly told all at_rightly at_told at_all = (
      (λ so. let two = at_all.0 so in shown_from (at_rightly.0 two.0) (at_told.0 two.1)),
      (λ shown. at_all.1 (at_rightly.1 (lines_from shown), at_told.1 shown.told)),
    )

    -- where the standing after the round is the one that its lines show
    pub shown_after : t ≡ after_round s r → (b : Bool) → (IsTrue b ↔ ShowsLines h s r t clients) → (IsTrue b ↔ HasShown h s r t)
    shown_after after b decides = (
      (λ so. shown_from (decides.0 so) (λ e. ap (λ (x : Standing). x.told e) after)),
      (λ shown. decides.1 (lines_from shown)),
    )

-- ---- looks

either_to : (b one : Bool) (P : Type 0) → (IsTrue one ↔ P) → IsTrue (b || one) → IsFalse b → P
either_to true one P decides so not_ = absurd (cc)
either_to false one P decides so not_ = decides.0 so

either_from : (b one : Bool) (P : Type 0) → (IsTrue one ↔ P) → (IsFalse b → P) → IsTrue (b || one)
either_from true one P decides each = refl
either_from false one P decides each = decides.1 (each refl)

module _ (h : Header) (s : Standing) (r : RoundData) (t : Standing) (live : List Create) where
  abbrev pub IsNothingLeft : Type 0
  IsNothingLeft = (e : ℕ) → IsTrue (is_shown s.book e) → one_look (replica_of h t e) e (rows_of h t.orders live) ≡ []

  abbrev pub IsOneEach : Type 0
  IsOneEach =
      (e : ℕ) → IsTrue (is_shown s.book e) → texts_to r e
      ≡ base_texts r e ++ map text.Shown (one_look (replica_of h s e) e (rows_of h t.orders live))

  pub looked_decided : (ticked nothing one second all : Bool) → ticked ≡ has_tick s.book → (IsTrue nothing ↔ IsNothingLeft) →
      (IsTrue one ↔ IsOneEach) → second ≡ ticked || one → (IsTrue all ↔ (IsTrue nothing × IsTrue second)) →
      (IsTrue all ↔ HasLooked h s r t live)
  looked_decided ticked nothing one second all tick_is at_nothing at_one second_is at_all = (
    (λ so.
        let two = at_all.0 so in record {
          nothing_left = at_nothing.0 two.0;
          one_each = λ no_tick. either_to ticked one IsOneEach at_one (sym second_is ∙ two.1) (tick_is ∙ no_tick);
        }),
    (λ looked. at_all.1 (
      at_nothing.1 looked.nothing_left,
      second_is ∙ either_from ticked one IsOneEach at_one (λ no_tick. looked.one_each (sym tick_is ∙ no_tick)),
    )),
  )
