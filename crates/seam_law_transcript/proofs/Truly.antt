-- What clients show stays true from round to round, and after a look that would show nothing it is the present.
use Rattle.seam_law_transcript.proofs.Prelude.{◌≡◌, ℕ, ◌+◌, ◌≤◌, ◌<◌, ◌⊎◌, Bool, true, false, cond, eqb, List, [], ◌∷◌, ◌++◌, length}
use Rattle.seam_law_transcript.proofs.Prelude.{Option, None, Some, refl, sym, ap, ◌∙◌, subst, arith, length-append, inl, inr, Contains}
use Rattle.seam_law_transcript.proofs.Prelude.{IsTrue, IsFalse, is_some, not, filter, map, nat_eq, nat_lt, ◌==◌, ◌&&◌, AllByRecursion}
use Rattle.seam_law_transcript.proofs.Prelude.{list_any, nat_cmp, nat_cmp_total, unsigned_tied, eqb-true, true≢false, nat_tests, none-some}
use Rattle.seam_law_transcript.proofs.Prelude.{recursion_from_All, own_of, other_of, Settings, Line, IsView, State, GhostCopy, Create, Call}
use Rattle.seam_law_transcript.proofs.Prelude.{Shown, Own, Enter, Set, Leave, Header, Book, created_as, live_as, is_shown, was_dead, joins}
use Rattle.seam_law_transcript.proofs.Prelude.{entries, Lists, Orders, ClientReplica, after_shown, after_all_shown, after_lines, new_client}
use Rattle.seam_law_transcript.proofs.Prelude.{shown_by_lines, Truth, ShowsTruth, Row, row_of, rows_but, is_newer, properties, flat}
use Rattle.seam_law_transcript.proofs.Prelude.{public_at, has_changed_at, other_at, row_after, rows_of, Standing, replica_of, ClientLine}
use Rattle.seam_law_transcript.proofs.Prelude.{RoundData, lines_to, told_in, IsRound, IsOwn, IsOther, truth_of, with_copy_shown}
use Rattle.seam_law_transcript.proofs.Prelude.{found_entity, live_is_created, in_filter, both, flat_before, public_before, WasOwn, WasOther}
use Rattle.seam_law_transcript.proofs.Prelude.{ShowsTruly}
use Rattle.std.specs.List.{IsDistinct}
use Rattle.std.specs.FinMap as table
use Rattle.std.proofs.lemmas.Option.{same_Some}
use Rattle.seam_defs.specs.declared.flags.Part.TheVariants as part
use Rattle.seam_view.specs.Replica.{AreShown}
use Rattle.seam_view.proofs.Kept.{view_when_shown, view_when_left}
use Rattle.seam_rule_clients.specs.Looks.{ShowsTable, IsShownNow}
use Rattle.seam_rule_rounds.proofs.Public.{at_most_unless, public_at_most, public_changed, public_last}
use Rattle.seam_rule_rounds.proofs.Shown.{as_the_rules_say}
use Rattle.seam_law_transcript.specs.Radius.{IsShownPresent, ShowsPresent}
use Rattle.seam_law_transcript.proofs.LookTruth.{found}
use Rattle.seam_law_transcript.proofs.Looked.{in_map}

-- ---- maps

put : {A : Type 0} (m : table.FinMap nat_cmp A) (k : ℕ) (x : A) (q : ℕ) →
    table.get (table.insert m k x) q ≡ cond (eqb q k) (Some x) (table.get m q)
put m k x q = table.get-insert nat_cmp_total m k x q ∙ ap (λ b. cond b (Some x) (table.get m q)) (unsigned_tied q k)

-- ---- one line more

none_twice : IsDistinct nat_eq []
unfolding IsDistinct
none_twice = tt

module _ (h : Header) (b : Book) (orders : Orders) (e : ℕ) where
  abbrev Truly : ClientReplica → Type 0
  Truly = ShowsTruly h b orders e

  pub new_is_true : (s : Settings) → Truly (new_client s)
  new_is_true s = record {
    own = λ v state is. absurd (none-some (v, state) is);
    others = λ x copy is. absurd (none-some copy (sym (table.get-empty nat_cmp x) ∙ is));
    shown = λ x v is. absurd (none-some v (sym (table.get-empty nat_cmp x) ∙ is));
    view = record { once = none_twice; shown = tt };
  }

  copy_by : (c : ClientReplica) (x q : ℕ) (k copy : GhostCopy) (same : Bool) → eqb q x ≡ same → Truly c → WasOther h b orders x k →
      cond same (Some k) (table.get c.copies q) ≡ Some copy → WasOther h b orders q copy
  copy_by c x q k copy true at so is has =
      let one : k ≡ copy = (let z = has in cc) in
      subst (λ (n : ℕ). WasOther h b orders n copy) (sym (eqb-true q x at)) (subst (WasOther h b orders x) one is)
  copy_by c x q k copy false at so is has = so.others q copy has

  shown_by : (c : ClientReplica) (q v : ℕ) (k : GhostCopy) (same : Bool) → Truly c →
      cond same (Some k.version) (table.get c.others.shown q) ≡ Some v →
      (copy : GhostCopy) × (cond same (Some k) (table.get c.copies q) ≡ Some copy) × (copy.version ≡ v)
  shown_by c q v k true so is = (k, refl, (let z = is in cc))
  shown_by c q v k false so is = so.shown q v is

  with_copy : (c : ClientReplica) (x : ℕ) (k : GhostCopy) → Truly c → WasOther h b orders x k → Truly (with_copy_shown c x k)
  with_copy c x k so is = record {
    own = so.own;
    others = λ q copy has. copy_by c x q k copy (eqb q x) refl so is (sym (put c.copies x k q) ∙ has);
    shown = λ q v has.
        let s = shown_by c q v k (eqb q x) so (sym (put c.others.shown x k.version q) ∙ has) in
        (s.0, put c.copies x k q ∙ s.1, s.2);
    view = view_when_shown c.others x k.version so.view;
  }

  module _ (t : Truth) (own : (v : ℕ) (state : State) → t.own v state → WasOwn h b orders e v state)
      (other : (x : ℕ) (k : GhostCopy) → t.other x k → WasOther h b orders x k) where
    one_more : (c : ClientReplica) (x : Shown) → Truly c → ShowsTruth t x → Truly (after_shown c x)
    one_more c (Own v state) so is = record {
      own = λ w now has. subst (λ (p : ℕ × State). WasOwn h b orders e p.0 p.1) (same_Some (v, state) (w, now) has) (own v state is);
      others = so.others;
      shown = so.shown;
      view = so.view;
    }
    one_more c (Enter x k) so is = with_copy c x k so (other x k is)
    one_more c (Set x k) so is = with_copy c x k so (other x k is)
    one_more c (Leave x) so is =
        record { own = so.own; others = so.others; shown = so.shown; view = view_when_left c.others x so.view }

    pub all_more : (xs : List Shown) (c : ClientReplica) → Truly c → AllByRecursion (ShowsTruth t) xs → Truly (after_all_shown c xs)
    all_more [] c so is = so
    all_more (x ∷ xs) c so is = all_more xs (after_shown c x) (one_more c x so is.0) is.1

-- ---- further calls, and further lines in the book

module _ (h : Header) (a b : Book) (before after : Orders)
    (known : (x : ℕ) (c : Create) → created_as a x ≡ Some c → created_as b x ≡ Some c)
    (further : (x : ℕ) → (done : List Call) × (after part.Cell x ≡ before part.Cell x ++ done)) where
  flat_same : (x : ℕ) (c : Create) (v : ℕ) → v ≤ length (before part.Cell x) →
      flat h part.Cell c (before part.Cell x) v ≡ flat h part.Cell c (after part.Cell x) v
  flat_same x c v le =
      sym (ap (λ l. flat h part.Cell c l v) (further x).1 ∙ flat_before h c (before part.Cell x) (further x).0 v le)

  no_less : (x v : ℕ) → v ≤ length (before part.Cell x) → v ≤ length (after part.Cell x)
  no_less x v le =
      let all = ap length (further x).1 in
      let len = length-append (before part.Cell x) (further x).0 in
      omega (arith, le, all, len)

  pub truly_later : (e : ℕ) (c : ClientReplica) → ShowsTruly h a before e c → ShowsTruly h b after e c
  truly_later e c so = record {
    own = λ v state is.
        let o = so.own v state is in
        record {
          made = o.made;
          is = known e o.made o.is;
          had = no_less e v o.had;
          same = o.same ∙ ap (own_of (properties h o.made)) (flat_same e o.made v o.had);
        };
    others = λ x copy is.
        let o = so.others x copy is in
        record {
          made = o.made;
          is = known x o.made o.is;
          had = no_less x copy.version o.had;
          public =
              ap (λ l. public_at h o.made l copy.version) (further x).1
              ∙ public_before h o.made (before part.Cell x) (further x).0 copy.version o.had ∙ o.public;
          same =
              o.same
              ∙ ap (λ st. let k : GhostCopy = record { ty = o.made.ty; version = copy.version; state = other_of (properties h o.made) st }
              in k)
              (flat_same x o.made copy.version o.had);
        };
    shown = so.shown;
    view = so.view;
  }

-- ---- a round

is_some_of : {A : Type 0} (o : Option A) → is_some o ≡ true → (x : A) × (o ≡ Some x)
is_some_of None is = absurd (true≢false (sym is))
is_some_of (Some x) is = (x, refl)

-- the lines to who is not shown any
none_to : (P : ℕ → Bool) (e : ℕ) → P e ≡ false → (ls : List ClientLine) → AllByRecursion (λ l. IsTrue (P l.entity)) ls →
    filter (λ l. l.entity == e) ls ≡ []
none_to P e not_e [] all = refl
none_to P e not_e (l ∷ ls) all = by (l.entity == e) refl (none_to P e not_e ls all.1)
  where
    by : (x : Bool) → (l.entity == e) ≡ x → filter (λ k. k.entity == e) ls ≡ [] →
        cond x (l ∷ filter (λ k. k.entity == e) ls) (filter (λ k. k.entity == e) ls) ≡ []
    by true at rest = absurd (true≢false (sym (subst (λ n. P n ≡ true) (eqb-true l.entity e at) all.0) ∙ not_e))
    by false at rest = rest

module _ (follow : (c : ClientReplica) (lines more : List Line) → after_lines c (lines ++ more) ≡ after_lines (after_lines c lines) more)
    (h : Header) (s : Standing) (r : RoundData) (t : Standing) (legal : IsRound h s r t)
    (truly : (e : ℕ) → ShowsTruly h s.book s.orders e (replica_of h s e)) where
  so_far : (e : ℕ) → ShowsTruly h s.book t.orders e (replica_of h s e)
  so_far e =
      truly_later h s.book s.book s.orders t.orders (λ x c is. is) (λ x. (legal.did.done x, legal.did.further x)) e (replica_of h s e)
      (truly e)

  own_then : (c : Create) (v : ℕ) (state : State) → created_as s.book c.entity ≡ Some c → IsOwn h s t c v state →
      WasOwn h s.book t.orders c.entity v state
  own_then c v state is so = record { made = c; is = is; had = so.0.1; same = so.1 }

  other_then : (x : ℕ) (k : GhostCopy) → IsOther h s t x k → WasOther h s.book t.orders x k
  other_then x k so =
      let at = as_the_rules_say h s t x k so in
      let number = found_entity _ x at.made at.is in
      record {
        made = at.made;
        is = at.is;
        had = subst (λ (n : ℕ). k.version ≤ length (t.orders part.Cell n)) number at.up_to;
        public = at.public;
        same = at.same;
      }

  replica_then : (e : ℕ) → replica_of h t e ≡ after_lines (replica_of h s e) (told_in r e)
  replica_then e =
      ap (after_lines (new_client h.settings)) (legal.shown.told e) ∙ follow (new_client h.settings) (s.told e) (told_in r e)

  of_client : (c : Create) → created_as s.book c.entity ≡ Some c → IsTrue (is_shown s.book c.entity) →
      ShowsTruly h s.book t.orders c.entity (after_lines (replica_of h s c.entity) (told_in r c.entity))
  of_client c is shown =
      all_more h s.book t.orders c.entity (truth_of h s t c) (λ v state so. own_then c v state is so) other_then
      (shown_by_lines (told_in r c.entity)) (replica_of h s c.entity) (so_far c.entity)
      (legal.shown.each c is shown).right.true_

  by_client : (e : ℕ) (x : Bool) → is_shown s.book e ≡ x → ShowsTruly h s.book t.orders e (after_lines (replica_of h s e) (told_in r e))
  by_client e true shown =
      let two = both (is_some (created_as s.book e) && list_any (joins e) (entries s.book)) (not (was_dead s.book e)) shown in
      let made = is_some_of (created_as s.book e) (both (is_some (created_as s.book e)) (list_any (joins e) (entries s.book)) two.0).0 in
      let number = found_entity _ e made.0 made.1 in
      subst (λ (n : ℕ). ShowsTruly h s.book t.orders n (after_lines (replica_of h s n) (told_in r n))) number
      (of_client made.0 (subst (λ (n : ℕ). created_as s.book n ≡ Some made.0) (sym number) made.1)
      (subst (λ (n : ℕ). IsTrue (is_shown s.book n)) (sym number) shown))
  by_client e false shown =
      let none : told_in r e ≡ [] =
      ap (map (λ (l : ClientLine). l.line))
      (none_to (is_shown s.book) e shown r.shown
      (recursion_from_All (λ (l : ClientLine). IsTrue (is_shown s.book l.entity)) r.shown legal.shown.only)) in
      subst (λ (l : List Line). ShowsTruly h s.book t.orders e (after_lines (replica_of h s e) l)) (sym none) (so_far e)

  pub truly_then : (e : ℕ) → ShowsTruly h s.book t.orders e (replica_of h t e)
  truly_then e =
      subst (ShowsTruly h s.book t.orders e) (sym (replica_then e)) (by_client e (is_shown s.book e) refl)

-- ---- the present

-- public versions rise with versions
module _ (h : Header) (c : Create) (order : List Call) where
  past_is_none : (v w : ℕ) → public_at h c order v < w → w ≤ v → (w ≡ 0) ⊎ (has_changed_at h part.Cell c order w ≡ true) → ⊥
  past_is_none v w low high (inl zero_) = omega (arith, low, zero_)
  past_is_none v w low high (inr changed) = true≢false (sym changed ∙ public_last h c order v w low high)

  rises : (v w : ℕ) → v ≤ w → public_at h c order v ≤ public_at h c order w
  rises v w up =
      at_most_unless (public_at h c order v) (public_at h c order w)
      (λ above. let most = public_at_most h c order v in
      past_is_none w (public_at h c order v) above (omega (arith, most, up)) (public_changed h c order v))

module _ (h : Header) (b : Book) (orders : Orders) (live : List Create) (listed : Lists (live_as b) live) where
  abbrev rows : List Row
  rows = rows_of h orders live

  -- a row is that of an entity that was created
  record IsRowOf (e : ℕ) (row : Row) : Type 0 where
    made : Create
    is : created_as b e ≡ Some made
    same : row ≡ row_after h made (orders part.Cell e)

  row_is : (e : ℕ) (row : Row) → Contains rows row → row.entity ≡ e → IsRowOf e row
  row_is e row has number =
      let m = in_map (λ c. row_after h c (orders part.Cell c.entity)) live row has in
      let same : m.0.entity ≡ e = ap (λ (y : Row). y.entity) (sym m.2) ∙ number in
      record {
        made = m.0;
        is = subst (λ (n : ℕ). created_as b n ≡ Some m.0) same (live_is_created b m.0.entity m.0 ((listed.exact m.0).0 m.1));
        same = m.2 ∙ ap (λ n. row_after h m.0 (orders part.Cell n)) same;
      }

  module _ (me : ℕ) (c : ClientReplica) (so : ShowsTruly h b orders me c) (own : Row) (its : row_of rows me ≡ Some own)
      (sees : ShowsTable c own (rows_but me rows)) where
    own_row : IsRowOf me own
    own_row = let f = found (λ x. eqb x.entity me) rows own its in row_is me own f.0 (eqb-true own.entity me f.1)

    itself_by : (o : Option (ℕ × State)) → c.own ≡ o → IsFalse (is_newer o own.version) → o ≡ Some (own.version, own.own)
    itself_by None is old = absurd (true≢false old)
    itself_by (Some last) is old =
        let o = so.own last.0 last.1 is in
        let row = own_row in
        let one : o.made ≡ row.made = (let z = sym o.is ∙ row.is in cc) in
        let most = o.had in
        let version : own.version ≡ length (orders part.Cell me) = ap (λ (y : Row). y.version) row.same in
        let least : own.version ≤ last.0 = grind (arith, nat_tests, old) in
        let now : last.0 ≡ length (orders part.Cell me) = omega (arith, most, version, least) in
        let state : last.1 ≡ own.own =
        o.same
        ∙ ap (λ (y : Create). own_of (properties h y) (flat h part.Cell y (orders part.Cell me) last.0)) one
        ∙ ap (λ n. own_of (properties h row.made) (flat h part.Cell row.made (orders part.Cell me) n)) now
        ∙ sym (ap (λ (y : Row). y.own) row.same) in
        ap (λ n. Some (n, last.1)) (now ∙ sym version) ∙ ap (λ (y : State). Some (own.version, y)) state

    one_in_view : (x v : ℕ) → IsShownNow c own (rows_but me rows) x v → table.get c.others.shown x ≡ Some v →
        IsShownPresent c own (rows_but me rows) x v
    one_in_view x v now shown =
        let k = so.shown x v shown in
        let o = so.others x k.0 k.1 in
        let f = found (λ y. eqb y.entity x) (rows_but me rows) now.row now.is in
        let row = row_is x now.row (in_filter (λ y. not (eqb y.entity me)) rows now.row f.0).0 (eqb-true now.row.entity x f.1) in
        let one : o.made ≡ row.made = (let z = sym o.is ∙ row.is in cc) in
        let order = orders part.Cell x in
        let public : now.row.other.version ≡ public_at h o.made order (length order) =
        ap (λ (y : Row). y.other.version) row.same ∙ ap (λ (y : Create). public_at h y order (length order)) (sym one) in
        let least = now.newest in
        let at = k.2 in
        let up = rises h o.made order k.0.version (length order) o.had in
        let is_public = o.public in
        let same : k.0.version ≡ public_at h o.made order (length order) = omega (arith, public, least, at, up, is_public) in
        record {
          row = now.row;
          is = now.is;
          within = now.within;
          newest = omega (arith, public, at, same);
          copy =
              k.1
              ∙ ap (λ (y : GhostCopy). Some y)
              (o.same ∙ ap (other_at h o.made order) same
              ∙ ap (λ (y : Create). other_at h y order (public_at h y order (length order))) one
              ∙ sym (ap (λ (y : Row). y.other) row.same));
        }

    all_in_view : (ps : List (ℕ × ℕ)) → AllByRecursion (λ p. IsShownNow c own (rows_but me rows) p.0 p.1) ps → AreShown c.others.shown ps →
        AllByRecursion (λ p. IsShownPresent c own (rows_but me rows) p.0 p.1) ps
    all_in_view [] now shown = tt
    all_in_view (p ∷ ps) now shown = (one_in_view p.0 p.1 now.0 shown.0, all_in_view ps now.1 shown.1)

    pub shows_present : ShowsPresent c own (rows_but me rows)
    shows_present = record {
      itself = itself_by c.own refl sees.own;
      near = sees.near;
      each = all_in_view c.others.entries sees.in_view_ so.view.shown;
    }
