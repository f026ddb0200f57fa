-- Two rounds without a tick and a balance, of entities with one sender each, whose standings differ in where entities are held alone.
use Rattle.std.proofs.Common.{◌≡◌, ℕ, false, List, [], ◌∷◌, length, map, refl, sym, ◌∙◌, ap}
use Rattle.std.specs.Prelude.{ℤ, pos, ◌+ℤ◌, fold}
use Rattle.std.proofs.Math.Path.{fun_ext}
use Rattle.std.proofs.lemmas.List.{append_cancel_left, length-map}
use Rattle.seam_rule_rounds.specs.Prelude.{Place, Part, Sender, Call, Create, Header, Orders, Book, live_as, created_as, has_tick}
use Rattle.seam_rule_rounds.specs.Prelude.{has_balance, with_round_ended, DoneLine, HomeLine, done_lines, ExtendsOrders, AcceptedAreFrom}
use Rattle.seam_rule_rounds.specs.Prelude.{Standing, ClientLine, RoundData, lines_to, told_in, home_line, IsRound, hp_of, sums_of}
use Rattle.seam_defs.specs.declared.flags.Part.TheVariants as part
use Rattle.seam_rule_lines.proofs.Lists.{listed_is_one}
use Rattle.seam_rule_lines.proofs.OneSender.{full_order_is_one}
use Rattle.seam_rule_rounds.proofs.WithoutTick.{told_is_one}
use Rattle.seam_rule_rounds.proofs.Counts.{same_length}
use Rattle.seam_rule_rounds.proofs.Moved.{held_at, second, moved, round_moved, is_moved}

-- the lines of executed calls are one list
done_is_one : (b : Book) (p : Part) (before after after' : ℕ → List Call) (xs ys : List DoneLine) → after ≡ after' →
    ExtendsOrders b p before after xs → ExtendsOrders b p before after' ys → xs ≡ ys
done_is_one b p before after after' xs ys same x y =
    let done : x.done ≡ y.done =
    fun_ext (λ e. append_cancel_left (before e) (x.done e) (y.done e) (sym (x.further e) ∙ ap (λ (o : ℕ → List Call). o e) same
    ∙ y.further e)) in
    x.are ∙ ap (λ (d : ℕ → List Call). done_lines d x.made) done
    ∙ ap (done_lines y.done) (listed_is_one (created_as b) x.made y.made x.listed y.listed) ∙ sym y.are

-- by its parts the order after a round is one
same_orders : (o u : Orders) → o part.Cell ≡ u part.Cell → o part.Base ≡ u part.Base → o ≡ u
same_orders o u cell base = fun_ext by_part
  where
    by_part : (p : Part) → o p ≡ u p
    by_part part.Cell = cell
    by_part part.Base = base

module _ (h : Header) (one : ℕ → Sender) (s t v : Standing) (places : ℕ → Place) (r q : RoundData) (x : IsRound h s r t)
    (y : IsRound h (held_at s places) q v) (own : AcceptedAreFrom one s.book) (none : has_tick s.book ≡ false)
    (still : has_balance s.book ≡ false) where
  orders : t.orders ≡ v.orders
  orders =
      same_orders t.orders v.orders
      (fun_ext (λ e. full_order_is_one one s.book part.Cell e (t.orders part.Cell e) (v.orders part.Cell e) own (x.did.full e)
      (y.did.full e)))
      (fun_ext (λ e. full_order_is_one one s.book part.Base e (t.orders part.Base e) (v.orders part.Base e) own (x.dob.full e)
      (y.dob.full e)))

  did : r.did ≡ q.did
  did =
      done_is_one s.book part.Cell (s.orders part.Cell) (t.orders part.Cell) (v.orders part.Cell) r.did q.did
      (ap (λ (o : Orders). o part.Cell) orders) x.did y.did

  -- what clients were told
  told : (e : ℕ) → t.told e ≡ v.told e
  told =
      told_is_one h s t (moved h s t v places r q x y orders) r (round_moved h s t v places r q x y orders) none x
      (is_moved h s t v places r q x y orders still) orders

  told_here : (e : ℕ) → told_in r e ≡ told_in q e
  told_here e =
      append_cancel_left (s.told e) (told_in r e) (told_in q e) (sym (x.shown.told e) ∙ told e ∙ y.shown.told e)

  as_many_to : (e : ℕ) → length (lines_to r e) ≡ length (lines_to q e)
  as_many_to e =
      sym (length-map (lines_to r e) (λ (l : ClientLine). l.line)) ∙ ap length (told_here e)
      ∙ length-map (lines_to q e) (λ (l : ClientLine). l.line)

  shown : length r.shown ≡ length q.shown
  shown = same_length r.shown q.shown as_many_to

  -- ---- the hp of homes

  abbrev hp_after : ℤ → List HomeLine → ℤ
  hp_after n homes = fold (λ m l. m +ℤ hp_of l) n homes

  -- wherever these are
  hp_of_moved : (k : Standing) (live : List Create) (n : ℤ) →
      hp_after n (map (home_line h k) live) ≡ hp_after n (map (home_line h (held_at k places)) live)
  hp_of_moved k [] n = refl
  hp_of_moved k (c ∷ live) n = hp_of_moved k live (n +ℤ hp_of (home_line h k c))

  hp_by : Orders → List Create → ℤ
  hp_by o live = hp_after (pos 0) (map (home_line h (record s { orders = o; places = places })) live)

  hp : (sums_of r).hp ≡ (sums_of q).hp
  unfolding hp_by
  hp =
      ap (hp_after (pos 0)) x.homes ∙ hp_of_moved t x.live (pos 0) ∙ ap (λ (o : Orders). hp_by o x.live) orders
      ∙ ap (hp_by v.orders) (listed_is_one (live_as s.book) x.live y.live x.listed y.listed) ∙ sym (hp_of_moved v y.live (pos 0))
      ∙ sym (ap (hp_after (pos 0)) y.homes)

  -- ---- what the summary tells, and what the rounds leave

  pub same_sums : sums_of r ≡ sums_of q
  same_sums = λ i. record { did = length (did i); shown = shown i; hp = hp i }

  book_after : (t.book ≡ with_round_ended s.book) × (v.book ≡ with_round_ended s.book)
  book_after = ((second _ _ (has_balance s.book) still x.bounds).1, (second _ _ (has_balance s.book) still y.bounds).1)

  pub book_left : t.book ≡ with_round_ended s.book
  book_left = book_after.0

  -- the standings after the rounds differ in where entities are held alone
  pub left_same : v ≡ held_at t v.places
  left_same = λ i. record {
    lines = (y.lines ∙ sym x.lines) i;
    rounds = (y.rounds ∙ sym x.rounds) i;
    book = (book_after.1 ∙ sym book_after.0) i;
    orders = sym orders i;
    places = v.places;
    told = fun_ext {f = v.told} {g = t.told} (λ e. sym (told e)) i;
  }
