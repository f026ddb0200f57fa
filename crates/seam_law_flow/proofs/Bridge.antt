-- An event of a net is a step of each entity's flow.
use Rattle.std.proofs.Common.{◌≡◌, ℕ, Bool, true, false, cond, eqb, ◌&&◌, List, [], ◌∷◌, ◌++◌, length, Option, None, Some, drop, refl, ap}
use Rattle.std.proofs.Common.{◌∙◌, subst, arith}
use Rattle.std.proofs.lemmas.Bool.Decides.{nat_tests}
use Rattle.seam_machine.specs.Views.{Stepped, NetView}
use Rattle.seam_machine.specs.Sends.{AllBelow, items_to}
use Rattle.seam_machine.specs.Nets.{link, letter, input_from, happens, IsSquare}
use Rattle.seam_machine.specs.Events.{Occurs, link_left, link_added}
use Rattle.seam_law_flow.specs.Flows.{Goes, more_letter, letters_of, slot_at, flow_of, letter_in, given_from, letter_from, comes, IsHead}
use Rattle.seam_law_flow.specs.Flows.{mail_left}
use Rattle.seam_machine.specs.declared.machines.Input.{Input}
use Rattle.seam_machine.specs.declared.machines.Input.TheVariants.{Task, From}
use Rattle.seam_machine.specs.declared.machines.Event.{Event}
use Rattle.seam_machine.proofs.Occurring.{node_here, node_there}
use Rattle.seam_net_runs.proofs.Keeping.{link_is_exact}

module _ {T L : Type 0} (mine : T → Option L) where
  more_append : (o : Option L) (xs ys : List L) → more_letter o (xs ++ ys) ≡ more_letter o xs ++ ys
  more_append None xs ys = refl
  more_append (Some l) xs ys = refl

  pub letters_of-append : (xs ys : List T) → letters_of mine (xs ++ ys) ≡ letters_of mine xs ++ letters_of mine ys
  letters_of-append [] ys = refl
  letters_of-append (x ∷ xs) ys =
      ap (more_letter (mine x)) (letters_of-append xs ys) ∙ more_append (mine x) (letters_of mine xs) (letters_of mine ys)

  letters_added : (t : Bool) (xs : List T) → letters_of mine (cond t xs []) ≡ cond t (letters_of mine xs) []
  letters_added true xs = refl
  letters_added false xs = refl

  letters_either : (t : Bool) (xs ys : List T) → letters_of mine (cond t xs ys) ≡ cond t (letters_of mine xs) (letters_of mine ys)
  letters_either true xs ys = refl
  letters_either false xs ys = refl

  comes_given : (a : ℕ) (o : Option L) → comes (given_from a o) ≡ o
  comes_given a None = refl
  comes_given a (Some l) = refl

  comes_is : (i : Input T) → comes (letter_from mine i) ≡ letter_in mine i
  comes_is Task = refl
  comes_is (From a m) = comes_given a (mine m)

  abbrev mail_of : List (List (List T)) → ℕ → ℕ → List L
  mail_of rows x y = letters_of mine (link rows x y)

  -- a letter of another entity leaves the entity's letters as they are
  left_given : (rows : List (List (List T))) (k a x y : ℕ) (m : T) (ms : List T) (o : Option L) → mine m ≡ o → link rows a k ≡ m ∷ ms →
      (s t : Bool) → eqb x a ≡ s → eqb y k ≡ t → cond (s && t) (letters_of mine ms) (mail_of rows x y)
      ≡ mail_left (mail_of rows) k (given_from a o) (letters_of mine ms) x y
  left_given rows k a x y m ms (Some l) e h s t u v = rw (u, v) refl
  left_given rows k a x y m ms None e h true true u v =
      let xa : x ≡ a = grind (arith, nat_tests) in
      let yk : y ≡ k = grind (arith, nat_tests) in
      rw (xa, yk, h, e) refl
  left_given rows k a x y m ms None e h true false u v = refl
  left_given rows k a x y m ms None e h false t u v = refl

  left_by : (rows : List (List (List T))) (k a x y : ℕ) (m : T) (ms : List T) → link rows a k ≡ m ∷ ms → (s t : Bool) → eqb x a ≡ s →
      eqb y k ≡ t → letters_of mine (cond (s && t) (drop 1 (link rows x y)) (link rows x y))
      ≡ cond (s && t) (letters_of mine ms) (mail_of rows x y)
  left_by rows k a x y m ms h true true u v =
      let xa : x ≡ a = grind (arith, nat_tests) in
      let yk : y ≡ k = grind (arith, nat_tests) in
      rw (xa, yk, h) refl
  left_by rows k a x y m ms h true false u v = refl
  left_by rows k a x y m ms h false t u v = refl

  left_taken : (rows : List (List (List T))) (k a x y : ℕ) (m : T) (ms : List T) → link rows a k ≡ m ∷ ms →
      letters_of mine (link_left rows k (Some a) x y) ≡ cond (eqb x a && eqb y k) (letters_of mine ms) (mail_of rows x y)
  left_taken rows k a x y m ms h = left_by rows k a x y m ms h (eqb x a) (eqb y k) refl refl

  abbrev RestOf : (rows : List (List (List T))) → ℕ → Option ℕ → Input T → List L → Type 0
  RestOf rows k from i rest =
      IsHead (mail_of rows) k (letter_from mine i) rest
      × ((x y : ℕ) → letters_of mine (link_left rows k from x y) ≡ mail_left (mail_of rows) k (letter_from mine i) rest x y)

  head_given : (rows : List (List (List T))) (k a : ℕ) (m : T) (ms : List T) (o : Option L) → mine m ≡ o → link rows a k ≡ m ∷ ms →
      IsHead (mail_of rows) k (given_from a o) (letters_of mine ms)
  head_given rows k a m ms None e h = tt
  head_given rows k a m ms (Some l) e h = ap (letters_of mine) h ∙ ap (λ o. more_letter o (letters_of mine ms)) e

  taken_rest : (rows : List (List (List T))) (k a : ℕ) (i : Input T) (ms : List T) → link rows a k ≡ ms → letter a ms ≡ Some i →
      (rest : List L) × RestOf rows k (Some a) i rest
  taken_rest rows k a i [] h e = cc
  taken_rest rows k a Task (m ∷ ms) h e = cc
  taken_rest rows k a (From b n) (m ∷ ms) h e =
      let ab : a ≡ b = cc in
      let mn : m ≡ n = cc in (
        letters_of mine ms,
        subst (λ i. RestOf rows k (Some a) i (letters_of mine ms)) (ap (λ c. From c m) ab ∙ ap (From b) mn) (
          head_given rows k a m ms (mine m) refl h,
          λ x y. left_taken rows k a x y m ms h ∙ left_given rows k a x y m ms (mine m) refl h (eqb x a) (eqb y k) refl refl,
        ),
      )

  rest_of : (rows : List (List (List T))) (k : ℕ) (from : Option ℕ) (i : Input T) → input_from rows k from ≡ Some i →
      (rest : List L) × RestOf rows k from i rest
  rest_of rows k None Task e = ([], (tt, λ x y. refl))
  rest_of rows k None (From a m) e = cc
  rest_of rows k (Some a) i e = taken_rest rows k a i (link rows a k) refl e

  -- where the step is one of the moves, the event is a step of the flow
  pub event_goes : {N S : Type 0} (slot : N → S) (none : S) (Moves : ℕ → S → Option L → S → (ℕ → List L) → Type 0) (steps : N → Input T →
      Stepped N T) (w : NetView N T) (e : Event) (o : Occurs w e) → IsSquare w → AllBelow (length w.nodes) (steps o.node o.input).sent
      → Moves e.node (slot o.node) (letter_in mine o.input) (slot (steps o.node o.input).state)
      (λ j. letters_of mine (items_to j (steps o.node o.input).sent))
      → Goes Moves (flow_of slot none mine w) (flow_of slot none mine (happens steps w e))
  event_goes slot none Moves steps w e o q b m =
      let r = rest_of w.rows e.node e.from o.input o.is_fed in
      let sent = (steps o.node o.input).sent in
      record {
        k = e.node;
        input = letter_from mine o.input;
        rest = r.0;
        out = λ j. letters_of mine (items_to j sent);
        head = r.1.0;
        moves =
            let before = ap (slot_at slot none) o.is_node in
            let after = ap (slot_at slot none) (node_here steps w e o) in
            rw (before, after, comes_is o.input) m;
        others = λ j n. ap (slot_at slot none) (node_there steps w e o j n);
        mail_is = λ x y.
            ap (letters_of mine) (link_is_exact steps w e o q b x y)
            ∙ (letters_of-append (link_left w.rows e.node e.from x y) (link_added e.node sent x y)
            ∙ (ap (λ l. l ++ letters_of mine (link_added e.node sent x y)) (r.1.1 x y)
            ∙ ap (λ l. mail_left (mail_of w.rows) e.node (letter_from mine o.input) r.0 x y ++ l)
            (letters_added (eqb x e.node) (items_to y sent))));
      }
