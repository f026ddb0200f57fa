-- Base lines: a client is shown the base part where it is attached, and after each call that changes what it is shown.
use Rattle.seam_law_clients.proofs.Prelude.{◌≡◌, ℕ, zero, suc, ◌+◌, Bool, true, false, List, [], ◌∷◌, ◌++◌, map, length, Option, None, Some}
use Rattle.seam_law_clients.proofs.Prelude.{refl, sym, ap, ◌∙◌, subst, arith, append_assoc, option_map, range_with_len, nat_cmp, Ordering}
use Rattle.seam_law_clients.proofs.Prelude.{Less, Equal, Greater, append-nil, fold-append, happens, Event, State, client_of, changes}
use Rattle.seam_law_clients.proofs.Prelude.{next_item, after_offer, after_taking, Call as CallData, Order, Shown, Line, ClientText, Msg}
use Rattle.seam_law_clients.proofs.Prelude.{Here, type_at, properties, Orders, PartView, ProxyView, base_text, with_line, line_if}
use Rattle.seam_law_clients.proofs.Prelude.{with_deed, with_order, offered_update, shows_next, World, node_steps, comes, more_letter, Frame}
use Rattle.seam_law_clients.proofs.Prelude.{here_at, IsInFrame, AtBase, entity_flow, IsSpared, Offered, now, early, late, PartMoves, rests}
use Rattle.seam_law_clients.proofs.Prelude.{refuses, offers, sends, serves, executes, misses, updates, shows, ends, RunsTo, base_in}
use Rattle.seam_law_clients.proofs.Prelude.{base_lines, number_of_line, line_where, state_with, state_after, lines_after, ShowsItsPart}
use Rattle.seam_law_clients.proofs.Prelude.{slots_kept, Update as UpdateData, executed, with_offer, event_moves, frame_happens}
use Rattle.seam_law_clients.proofs.Prelude.{spared_happens, part_moves, unordered, EachKeeps, runs_keep}
use Rattle.std.proofs.Common.{length-append}
use Rattle.std.proofs.lemmas.List.{map-append}
use Rattle.seam_call.specs.declared.order.Order.TheVariants as order
use Rattle.seam_call.specs.declared.shown.ClientText.TheVariants as text

-- ---- lists

base_append : (xs ys : List Line) → base_lines (xs ++ ys) ≡ base_lines xs ++ base_lines ys
base_append [] ys = refl
base_append (x ∷ xs) ys = ap (more_letter (base_in x)) (base_append xs ys) ∙ by (base_in x)
  where
    by : (o : Option ClientText) → more_letter o (base_lines xs ++ base_lines ys) ≡ more_letter o (base_lines xs) ++ base_lines ys
    by None = refl
    by (Some t) = refl

range_append : (a n m b : ℕ) → a + n ≡ b → range_with_len a n ++ range_with_len b m ≡ range_with_len a (n + m)
range_append a zero m b is =
    let same : b ≡ a = omega (arith, is) in
    let more : m ≡ 0 + m = omega arith in
    ap (λ j. range_with_len j m) same ∙ ap (range_with_len a) more
range_append a (suc n) m b is =
    let more : suc (n + m) ≡ suc n + m = omega arith in
    ap (λ l. a ∷ l) (range_append (a + 1) n m b (omega (arith, is))) ∙ ap (range_with_len a) more

module _ (h : Here) (ty : ℕ) where
  lines_append : (s : State) (version : ℕ) (ks cs : List CallData) → lines_after h ty s version (ks ++ cs)
      ≡ lines_after h ty s version ks ++ lines_after h ty (state_after h ty s ks) (version + length ks) cs
  lines_append s version [] cs = let same : version ≡ version + 0 = omega arith in ap (λ v. lines_after h ty s v cs) same
  lines_append s version (k ∷ ks) cs =
      let next = state_with h ty s k in
      let line =
      line_where (changes (type_at h ty) s k.deed) (text.Base (version + 1) (client_of (properties h ty) (state_with h ty s k))) in
      let same : version + 1 + length ks ≡ version + length (k ∷ ks) = omega arith in
      ap (λ l. line ++ l) (lines_append next (version + 1) ks cs)
      ∙ sym (append_assoc line (lines_after h ty next (version + 1) ks)
      (lines_after h ty (state_after h ty next ks) (version + 1 + length ks) cs))
      ∙ ap (λ v. (line ++ lines_after h ty next (version + 1) ks) ++ lines_after h ty (state_after h ty next ks) v cs) same

-- ---- from part to part

module _ (h : Here) where
  -- the same part with the same client, but for the calls that wait
  pub still : (p q : PartView) (x y : ProxyView) (o : Option PartView) → o ≡ Some q → q.done ≡ p.done → q.ty ≡ p.ty → q.state ≡ p.state →
      q.version ≡ p.version → q.proxy ≡ Some y → y.lines ≡ x.lines → y.last ≡ x.last → ShowsItsPart h p x o
  still p q x y o is done type state version has lines last = record {
    part = q;
    is = is;
    calls = [];
    done = done ∙ sym (append-nil p.done);
    type = type;
    state = state;
    version = omega (arith, version);
    proxy = y;
    has = has;
    lines = [];
    shown = lines ∙ sym (append-nil x.lines);
    numbers = refl;
    last = omega (arith, last);
    bases = refl;
  }

  -- the client is shown something of the part's entity or of others
  told : (p : PartView) (x y : ProxyView) (s : Shown) → y.lines ≡ x.lines → y.last ≡ x.last →
      ShowsItsPart h p x (Some (record p { proxy = Some (with_line y (text.Shown s)) }))
  told p x y s lines last = record {
    part = record p { proxy = Some (with_line y (text.Shown s)) };
    is = refl;
    calls = [];
    done = sym (append-nil p.done);
    type = refl;
    state = refl;
    version = omega arith;
    proxy = with_line y (text.Shown s);
    has = refl;
    lines = record { number = y.last + 1; text = text.Shown s } ∷ [];
    shown = ap (λ l. l ++ record { number = y.last + 1; text = text.Shown s } ∷ []) lines;
    numbers = ap (λ n. (n + 1) ∷ []) last;
    last = omega (arith, last);
    bases = refl;
  }

  -- a call is executed
  done_by : (p : PartView) (x : ProxyView) (k : CallData) (os : Orders) (b : Bool) → changes (type_at h p.ty) p.state k.deed ≡ b →
      ShowsItsPart h p x (Some (record (with_deed h p k) { orders = os; proxy = Some (line_if b (base_text h (with_deed h p k)) x) }))
  done_by p x k os true is = record {
    part = record (with_deed h p k) { orders = os; proxy = Some (with_line x (base_text h (with_deed h p k))) };
    is = refl;
    calls = k ∷ [];
    done = refl;
    type = refl;
    state = refl;
    version = omega arith;
    proxy = with_line x (base_text h (with_deed h p k));
    has = refl;
    lines = record { number = x.last + 1; text = base_text h (with_deed h p k) } ∷ [];
    shown = refl;
    numbers = refl;
    last = omega arith;
    bases = sym (ap (λ c. line_where c (base_text h (with_deed h p k)) ++ []) is);
  }
  done_by p x k os false is = record {
    part = record (with_deed h p k) { orders = os; proxy = Some x };
    is = refl;
    calls = k ∷ [];
    done = refl;
    type = refl;
    state = refl;
    version = omega arith;
    proxy = x;
    has = refl;
    lines = [];
    shown = sym (append-nil x.lines);
    numbers = refl;
    last = omega arith;
    bases = sym (ap (λ c. line_where c (base_text h (with_deed h p k)) ++ []) is);
  }

  executed_is : (p : PartView) (x : ProxyView) (k : CallData) (os : Orders) → p.proxy ≡ Some x → (o : Option PartView) →
      o ≡ Some (record (executed h p k) { orders = os }) → ShowsItsPart h p x o
  executed_is p x k os has o is =
      subst (ShowsItsPart h p x)
      (sym (is ∙ ap (λ y. let q : PartView = record (with_deed h p k) {
        orders = os;
        proxy = option_map (line_if (changes (type_at h p.ty) p.state k.deed) (base_text h (with_deed h p k))) y;
      } in Some q) has))
      (done_by p x k os (changes (type_at h p.ty) p.state k.deed) refl)

  -- one after another
  goes_on : (p : PartView) (x : ProxyView) (o then : Option PartView) (s : ShowsItsPart h p x o) → ShowsItsPart h s.part s.proxy then →
      ShowsItsPart h p x then
  goes_on p x o then s t = record {
    part = t.part;
    is = t.is;
    calls = s.calls ++ t.calls;
    done = t.done ∙ ap (λ l. l ++ t.calls) s.done ∙ append_assoc p.done s.calls t.calls;
    type = t.type ∙ s.type;
    state = t.state
        ∙ (ap (λ ty. state_after h ty s.part.state t.calls) s.type ∙ ap (λ z. state_after h p.ty z t.calls) s.state)
        ∙ sym (fold-append (state_with h p.ty) p.state s.calls t.calls);
    version =
        let a = t.version in
        let b = s.version in
        let c = length-append s.calls t.calls in
        omega (arith, a, b, c);
    proxy = t.proxy;
    has = t.has;
    lines = s.lines ++ t.lines;
    shown = t.shown ∙ ap (λ l. l ++ t.lines) s.shown ∙ append_assoc x.lines s.lines t.lines;
    numbers =
        let next : x.last + 1 + length s.lines ≡ s.proxy.last + 1 = let a = s.last in omega (arith, a) in
        map-append number_of_line s.lines t.lines
        ∙ (ap (λ l. l ++ map number_of_line t.lines) s.numbers ∙ ap (λ l. range_with_len (x.last + 1) (length s.lines) ++ l) t.numbers)
        ∙ range_append (x.last + 1) (length s.lines) (length t.lines) (s.proxy.last + 1) next
        ∙ ap (range_with_len (x.last + 1)) (sym (length-append s.lines t.lines));
    last =
        let a = t.last in
        let b = s.last in
        let c = length-append s.lines t.lines in
        omega (arith, a, b, c);
    bases =
        base_append s.lines t.lines
        ∙ (ap (λ l. l ++ base_lines t.lines) s.bases
        ∙ ap (λ l. lines_after h p.ty p.state p.version s.calls ++ l) (t.bases
        ∙ (ap (λ ty. lines_after h ty s.part.state s.part.version t.calls) s.type
        ∙ ap (λ z. lines_after h p.ty z s.part.version t.calls) s.state
        ∙ ap (λ v. lines_after h p.ty (state_after h p.ty p.state s.calls) v t.calls) s.version)))
        ∙ sym (lines_append h p.ty p.state p.version s.calls t.calls);
  }

-- ---- a move

module _ (h : Here) (e : ℕ) (s : AtBase) (i : Option Msg) (t : AtBase) (sent : List (ℕ × Msg))
    (calm : (os : List Order) → s.orders ≡ order.Reap e ∷ os → ⊥) (a : PartView) (y : ProxyView) (here : s.part ≡ Some a)
    (has : a.proxy ≡ Some y) where
  kept : t.part ≡ s.part → ShowsItsPart h a y t.part
  kept is = still h a a y y t.part (is ∙ here) refl refl refl refl has refl refl

  its : (p : PartView) → s.part ≡ Some p → p ≡ a
  its p at = let z = sym at ∙ here in cc

  offered : (p : PartView) (c : CallData) (q : PartView) → p ≡ a → Offered h p c q → t.part ≡ Some q → ShowsItsPart h a y t.part
  offered p c q one (now at is) after =
      executed_is h a y c _ has t.part (after ∙ ap Some is ∙ ap (λ z. Some (with_offer (executed h z c) c)) one)
  offered p c q one (early lt is) after =
      still h a (with_offer a c) y y t.part
      (after ∙ ap Some is ∙ ap (λ z. Some (with_offer z c)) one) refl refl refl refl has refl refl
  offered p c q one (late lt is) after = kept (after ∙ ap Some (is ∙ one) ∙ sym here)

  updated : (u : UpdateData) (r : Ordering) → (o : Option PartView) → o ≡ Some (record a { proxy = Some (offered_update y u r) }) →
      ShowsItsPart h a y o
  updated u Less o is = still h a (record a { proxy = Some y }) y y o is refl refl refl refl refl refl refl
  updated u Equal o is =
      subst (ShowsItsPart h a y) (sym is)
      (told h a y (record y { updates = after_offer y.updates u.number u.shown }) u.shown refl refl)
  updated u Greater o is =
      still h a (record a { proxy = Some (record y { updates = after_offer y.updates u.number u.shown }) }) y _ o is refl refl refl refl
      refl refl refl

  next_shown : (n : Option Shown) (o : Option PartView) → o ≡ Some (record a { proxy = Some (shows_next y n) }) → ShowsItsPart h a y o
  next_shown None o is = still h a (record a { proxy = Some y }) y y o is refl refl refl refl refl refl refl
  next_shown (Some u) o is =
      subst (ShowsItsPart h a y) (sym is) (told h a y (record y { updates = after_taking y.updates }) u refl refl)

  same_proxy : (p : PartView) (x : ProxyView) → p ≡ a → p.proxy ≡ Some x → x ≡ y
  same_proxy p x one at = let z = sym at ∙ (ap (λ (q : PartView). q.proxy) one ∙ has) in cc

  pub part_shown : PartMoves h e s i t sent → ShowsItsPart h a y t.part
  part_shown (rests n m l part z) = kept part
  part_shown (refuses c n stray is z) = kept (ap (λ b. b.part) is)
  part_shown (offers c p q n at may o l after z) = offered p c q (its p at) o after
  part_shown (sends c cs n at left part z) = kept part
  part_shown (serves c cs p q n at own home may o left after z) = offered p c q (its p own) o after
  part_shown (executes p o c n own at item l after z) =
      executed_is h a y c _ has t.part
      (after ∙ ap (λ q. Some (with_order (executed h q c) o.0 (after_taking o.1))) (its p own))
  part_shown (misses u n why l part z) = kept part
  part_shown (updates u p x n own at l after z) =
      let with : PartView → ProxyView → Option PartView =
      λ q w. Some (record q { proxy = Some (offered_update w u (nat_cmp u.number w.updates.next)) }) in
      updated u (nat_cmp u.number y.updates.next) t.part
      (after ∙ (ap (λ q. with q x) (its p own) ∙ ap (with a) (same_proxy p x (its p own) at)))
  part_shown (shows p x n own at ready l after z) =
      let with : PartView → ProxyView → Option PartView = λ q w. Some (record q { proxy = Some (shows_next w (next_item w.updates)) }) in
      next_shown (next_item y.updates) t.part
      (after ∙ (ap (λ q. with q x) (its p own) ∙ ap (with a) (same_proxy p x (its p own) at)))
  part_shown (ends os n at l after z) = absurd (calm os at)

-- ---- a list of events

module _ (f : Frame) (e : ℕ) (w : World) where
  record AreShown (v : World) : Type 0 where
    frame : IsInFrame f v
    spared : IsSpared e v
    parts : (k : ℕ) (p : PartView) (x : ProxyView) → ((entity_flow e w).slot k).base.part ≡ Some p → p.proxy ≡ Some x →
        ShowsItsPart (here_at f k) p x ((entity_flow e v).slot k).base.part

  shown_happens : EachKeeps AreShown
  shown_happens v o occur s =
      let g = event_moves f v o occur s.frame e in
      let from = (entity_flow e v).slot g.k in
      let to = (entity_flow e (happens node_steps v o)).slot g.k in
      record {
        frame = frame_happens f v o occur s.frame;
        spared = spared_happens f e v o occur s.frame s.spared;
        parts =
            slots_kept (λ k b. (p : PartView) (x : ProxyView) → ((entity_flow e w).slot k).base.part ≡ Some p → p.proxy ≡ Some x →
            ShowsItsPart (here_at f k) p x b.base.part) g s.parts
            (λ p x at has.
            let so_far = s.parts g.k p x at has in
            goes_on (here_at f g.k) p x from.base.part to.base.part so_far
            (part_shown (here_at f g.k) e from.base (comes g.input) to.base g.moves.sent (λ os. unordered e v g.k os s.spared) so_far.part
            so_far.proxy so_far.is so_far.has (part_moves f e g.k from (comes g.input) to g.moves.sent g.moves.moves)));
      }

  pub shows_its_part : (v : World) (es : List Event) → IsInFrame f w → IsSpared e w → RunsTo w es v → (k : ℕ)
      (p : PartView) (x : ProxyView) → ((entity_flow e w).slot k).base.part ≡ Some p → p.proxy ≡ Some x →
      ShowsItsPart (here_at f k) p x ((entity_flow e v).slot k).base.part
  shows_its_part v es frame spared run =
      (runs_keep AreShown shown_happens w v es (record {
        frame = frame;
        spared = spared;
        parts = λ k p x at has. still (here_at f k) p p x x _ at refl refl refl refl has refl refl;
      }) run).parts
