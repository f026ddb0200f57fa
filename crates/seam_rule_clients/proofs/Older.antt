-- Lines that may come show nothing older than was shown.
use Rattle.std.proofs.Common.{◌≡◌, ◌≤◌, ℕ, Bool, true, false, cond, ltb, List, [], ◌∷◌, Option, None, Some, refl, sym, ap, ◌∙◌, arith}
use Rattle.std.specs.Ordering.{nat_cmp, is_eq}
use Rattle.std.specs.Cmp.{nat_cmp_total}
use Rattle.std.specs.FinMap as table
use Rattle.std.proofs.lemmas.Bool.Decides.{nat_tests}
use Rattle.std.proofs.lemmas.Option.{same_Some}
use Rattle.seam_view.specs.Replica.{Replica, NeverFalls, with_version_shown}
use Rattle.seam_defs.specs.declared.states.State.{State}
use Rattle.seam_call.specs.declared.shown.Shown.{Shown}
use Rattle.seam_call.specs.declared.shown.Shown.TheVariants.{Own, Enter, Set, Leave}
use Rattle.seam_rule_clients.specs.Clients.{ClientReplica, after_shown, after_all_shown}
use Rattle.seam_rule_clients.specs.Looks.{is_newer}
use Rattle.seam_rule_clients.specs.Lines.{MayShow, MayShowAll}

-- ---- others

-- the version last shown of an entity, once one was shown
pub got : (m : table.FinMap nat_cmp ℕ) (e v q : ℕ) (t : Bool) → is_eq (nat_cmp q e) ≡ t →
    table.get (table.insert m e v) q ≡ cond t (Some v) (table.get m q)
got m e v q t is = table.get-insert nat_cmp_total m e v q ∙ ap (λ b. cond b (Some v) (table.get m q)) is

same : (q e : ℕ) → is_eq (nat_cmp q e) ≡ true → q ≡ e
same q e is = grind (arith, nat_tests)

-- an entity was shown at a version that is not less than that at which it was shown last
module _ (r : Replica) (e v : ℕ) (rises : (u : ℕ) → table.get r.shown e ≡ Some u → u ≤ v) where
  falls_by : (q u : ℕ) (t : Bool) → is_eq (nat_cmp q e) ≡ t → table.get r.shown q ≡ Some u →
      (w : ℕ) × (table.get (table.insert r.shown e v) q ≡ Some w) × (u ≤ w)
  falls_by q u true is was = (v, got r.shown e v q true is, rises u (ap (table.get r.shown) (sym (same q e is)) ∙ was))
  falls_by q u false is was = (u, got r.shown e v q false is ∙ was, omega arith)

  shown_never_falls : NeverFalls r (with_version_shown r e v)
  shown_never_falls q u was = falls_by q u (is_eq (nat_cmp q e)) refl was

nothing_falls : (r : Replica) → NeverFalls r r
nothing_falls r q u was = (u, was, omega arith)

in_turn : (a b c : Replica) → NeverFalls a b → NeverFalls b c → NeverFalls a c
in_turn a b c first then q u was =
    let m = first q u was in
    let n = then q m.0 m.1 in
    let up = m.2 in
    let up_again = n.2 in
    (n.0, n.1, omega (arith, up, up_again))

line_never_falls : (me : ℕ) (c : ClientReplica) (x : Shown) → MayShow me c x → NeverFalls c.others (after_shown c x).others
line_never_falls me c (Own v s) may = nothing_falls c.others
line_never_falls me c (Enter e k) may = shown_never_falls c.others e k.version may.not_older
line_never_falls me c (Set e k) may =
    shown_never_falls c.others e k.version
    (λ u was.
    let m = may.newer in
    let one : u ≡ m.0 = same_Some u m.0 (sym was ∙ m.1) in
    let up = m.2 in
    omega (arith, one, up))
line_never_falls me c (Leave e) may = nothing_falls c.others

pub lines_never_fall : (me : ℕ) (c : ClientReplica) (xs : List Shown) → MayShowAll me c xs →
    NeverFalls c.others (after_all_shown c xs).others
lines_never_fall me c [] may = nothing_falls c.others
lines_never_fall me c (x ∷ xs) may =
    in_turn c.others (after_shown c x).others (after_all_shown (after_shown c x) xs).others
    (line_never_falls me c x may.0) (lines_never_fall me (after_shown c x) xs may.1)

-- ---- the client's own entity

-- its last own line is of at least this version
abbrev OwnFrom : ℕ → Option (ℕ × State) → Type 0
OwnFrom v own = (w : ℕ) × (t : State) × (own ≡ Some (w, t)) × (v ≤ w)

newer_than : (v w : ℕ) (own : Option (ℕ × State)) (s : State) → own ≡ Some (v, s) → is_newer own w ≡ true → v ≤ w
newer_than v w None s was newer = cc
newer_than v w (Some last) s was newer =
    let one : last ≡ (v, s) = same_Some last (v, s) was in
    let version : last.0 ≡ v = ap (λ p. p.0) one in
    let below : ltb last.0 w ≡ true = newer in
    grind (arith, nat_tests)

own_line : (me v : ℕ) (s : State) (c : ClientReplica) (x : Shown) → c.own ≡ Some (v, s) → MayShow me c x → OwnFrom v (after_shown c x).own
own_line me v s c (Own w t) was may = (w, t, refl, newer_than v w c.own s was may)
own_line me v s c (Enter e k) was may = (v, s, was, omega arith)
own_line me v s c (Set e k) was may = (v, s, was, omega arith)
own_line me v s c (Leave e) was may = (v, s, was, omega arith)

pub own_never_falls : (me : ℕ) (c : ClientReplica) (xs : List Shown) (v : ℕ) (s : State) → MayShowAll me c xs → c.own ≡ Some (v, s) →
    OwnFrom v (after_all_shown c xs).own
own_never_falls me c [] v s may was = (v, s, was, omega arith)
own_never_falls me c (x ∷ xs) v s may was =
    let m = own_line me v s c x was may.0 in
    let n = own_never_falls me (after_shown c x) xs m.0 m.1 may.1 m.2 in
    let up = m.3 in
    let up_again = n.3 in
    (n.0, n.1, n.2, omega (arith, up, up_again))
