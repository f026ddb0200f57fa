-- The standing that a round leaves, as the code makes it.
use Rattle.std.proofs.Common.{◌≡◌, ◌<◌, ◌+◌, ℕ, Bool, true, false, cond, List, [], ◌∷◌, ◌++◌, map, Option, None, Some, refl, sym, ap, ◌∙◌}
use Rattle.std.proofs.Common.{arith, append-nil, inl, inr, if◌then◌else◌}
use Rattle.std.specs.Prelude.{filter, find, ◌==◌, unwrap_or, nat_eq}
use Rattle.std.specs.List.{list_any}
use Rattle.std.specs.Option.{option_map}
use Rattle.std.specs.Cmp.{nat_cmp_total}
use Rattle.std.specs.FinSet as set
use Rattle.std.proofs.lemmas.Bool.Decides.{nat_tests}
use Rattle.std.proofs.lemmas.List.{map-append}
use Rattle.std.proofs.lemmas.List.Elements.{filter-append}
use Rattle.seam_rule_rounds.specs.Prelude.{Division, is_for, Call, Part, tree_of, with_round_ended, DoneLine, HomeLine, in_first_cell}
use Rattle.seam_rule_rounds.specs.Prelude.{GhostLine, ClientLine, RoundData, with_bounds}
use Rattle.seam_haunt.proofs.Chosen.{or_true}
use Rattle.seam_judge_data.specs.Codes.{AreSmall}
use Rattle.seam_judge_data.specs.Standings.{place_among, standing_of}
use Rattle.seam_judge_data.specs.declared.standing.Held.{Held}
use Rattle.seam_judge_data.specs.declared.standing.Standing as plain
use Rattle.seam_judge_rounds.specs.After.{is_ghost_of, ghosts_among, place_at, place_in, after_round}

-- ---- places

-- a home line as the code keeps it
abbrev pub held_of : RoundData → HomeLine → Held
held_of r l = record { entity = l.entity; place = place_at r l }

pub held_is : (r : RoundData) (e : ℕ) (homes : List HomeLine) →
    place_among (map (held_of r) homes) e ≡ unwrap_or (option_map (place_at r) (find (λ l. l.entity == e) homes)) in_first_cell
held_is r e [] = refl
held_is r e (x ∷ xs) = by (x.entity == e) (held_is r e xs)
  where
    by : (b : Bool) →
        place_among (map (held_of r) xs) e ≡ unwrap_or (option_map (place_at r) (find (λ l. l.entity == e) xs)) in_first_cell →
        unwrap_or (option_map (λ (h : Held). h.place) (cond b (Some (held_of r x)) (find (λ h. h.entity == e) (map (held_of r) xs))))
        in_first_cell
        ≡ unwrap_or (option_map (place_at r) (cond b (Some x) (find (λ l. l.entity == e) xs))) in_first_cell
    by true again = refl
    by false again = again

abbrev pub cells : List GhostLine → List ℕ
cells lines = map (λ (l : GhostLine). l.cell) lines

pub ghosts_more : (lines : List GhostLine) (l : GhostLine) (e : ℕ) →
    (if is_ghost_of e l then set.insert (ghosts_among lines e) l.cell else ghosts_among lines e) ≡ ghosts_among (lines ++ l ∷ []) e
ghosts_more lines l e = by (is_ghost_of e l) refl
  where
    own : List GhostLine
    own = filter (is_ghost_of e) lines

    split : (b : Bool) → is_ghost_of e l ≡ b → filter (is_ghost_of e) (lines ++ l ∷ []) ≡ own ++ cond b (l ∷ []) []
    split b is = filter-append (is_ghost_of e) lines (l ∷ []) ∙ ap (λ (x : Bool). own ++ cond x (l ∷ []) []) is

    by : (b : Bool) → is_ghost_of e l ≡ b →
        cond b (set.insert (ghosts_among lines e) l.cell) (ghosts_among lines e) ≡ ghosts_among (lines ++ l ∷ []) e
    by true is =
        sym (ap (λ (ls : List GhostLine). set.from_list (cells ls)) (split true is)
        ∙ ap set.from_list (map-append (λ (x : GhostLine). x.cell) own (l ∷ []))
        ∙ set.from_list_push nat_cmp_total set.nat_cmp-IsAntisymmetric (cells own) l.cell)
    by false is = sym (ap (λ (ls : List GhostLine). set.from_list (cells ls)) (split false is ∙ append-nil own))

pub ghosts_are_small : (lines : List GhostLine) (e : ℕ) → AreSmall (ghosts_among lines e)
ghosts_are_small lines e c held =
    any_small lines (sym (set.contains-from_list_nat (cells (filter (is_ghost_of e) lines)) c) ∙ held)
  where
    any_small : (ls : List GhostLine) → list_any (λ y. nat_eq y c) (cells (filter (is_ghost_of e) ls)) ≡ true → c < 16
    any_small [] is = absurd (cc)
    any_small (x ∷ xs) is = by (is_ghost_of e x) refl (any_small xs) is
      where
        by : (b : Bool) → is_ghost_of e x ≡ b → (list_any (λ y. nat_eq y c) (cells (filter (is_ghost_of e) xs)) ≡ true → c < 16) →
            list_any (λ y. nat_eq y c) (cells (cond b (x ∷ filter (is_ghost_of e) xs) (filter (is_ghost_of e) xs))) ≡ true → c < 16
        by false at again any = again any
        by true at again any =
            elim (or_true (nat_eq x.cell c) (list_any (λ y. nat_eq y c) (cells (filter (is_ghost_of e) xs))) any) [
              | inl same ↦ grind (arith, nat_tests, at, same)
              | inr there ↦ again there
            ]

-- ---- the standing

module _ (s : plain.Standing) (r : RoundData) (t : plain.Standing) where
  book_by : (o : Option Division) → r.bounds ≡ o → t.past.items ≡ s.past.items ++ s.current.items → t.current.items ≡ [] →
      (r.bounds ≡ None → t.tree ≡ tree_of (standing_of s).book) → ((next : Division) → r.bounds ≡ Some next → t.tree ≡ next) →
      (standing_of t).book ≡ with_bounds (with_round_ended (standing_of s).book) o
  book_by None is past current none some = λ i. record { past = past i; tree = none is i; current = current i }
  book_by (Some next) is past current none some = λ i. record { past = past i; tree = some next is i; current = current i }

  pub standing_is : t.lines ≡ s.lines → t.rounds ≡ s.rounds + 1 → t.past.items ≡ s.past.items ++ s.current.items → t.current.items ≡ [] →
      (r.bounds ≡ None → t.tree ≡ tree_of (standing_of s).book) → ((next : Division) → r.bounds ≡ Some next → t.tree ≡ next) →
      t.calls.items ≡ s.calls.items ++ map (λ l. l.call) (r.did ++ r.dob) → ((e : ℕ) → place_among t.places.items e ≡ place_in r e) →
      t.told.items ≡ s.told.items ++ r.shown → standing_of t ≡ after_round (standing_of s) r
  standing_is lines rounds past current none some calls places told = λ i. record {
    lines = lines i;
    rounds = rounds i;
    book = book_by r.bounds refl past current none some i;
    orders = λ p e. orders_are p e i;
    places = λ e. places e i;
    told = λ e. told_are e i;
  }
    where
      done : List Call
      done = map (λ (l : DoneLine). l.call) (r.did ++ r.dob)

      orders_are : (p : Part) (e : ℕ) → filter (is_for p e) t.calls.items ≡ filter (is_for p e) s.calls.items ++ filter (is_for p e) done
      orders_are p e = ap (filter (is_for p e)) calls ∙ filter-append (is_for p e) s.calls.items done

      to : ℕ → ClientLine → Bool
      to e l = l.entity == e

      told_are : (e : ℕ) →
          map (λ (l : ClientLine). l.line) (filter (to e) t.told.items)
          ≡ map (λ (l : ClientLine). l.line) (filter (to e) s.told.items) ++ map (λ (l : ClientLine). l.line) (filter (to e) r.shown)
      told_are e =
          ap (λ (ls : List ClientLine). map (λ (l : ClientLine). l.line) (filter (to e) ls)) told
          ∙ ap (map (λ (l : ClientLine). l.line)) (filter-append (to e) s.told.items r.shown)
          ∙ map-append (λ (l : ClientLine). l.line) (filter (to e) s.told.items) (filter (to e) r.shown)
