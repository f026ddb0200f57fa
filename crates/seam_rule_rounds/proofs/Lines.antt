-- How lines are written, and who may call.
use Rattle.std.proofs.Common.{◌≡◌, [], ◌∷◌, Some, refl, inl, inr, arith}
use Rattle.std.specs.Prelude.{codes}
use Rattle.std.proofs.lemmas.Bool.{false≢true}
use Rattle.seam_value.specs.Values.{decimal_of}
use Rattle.seam_rule_rounds.specs.Prelude.{TooManyCells, WouldEmpty, builtin, Own, Enter, Set, Leave, MayCall, refusal, CutRefused}
use Rattle.seam_rule_rounds.specs.Prelude.{ShiftRefused, client_text, bounds_text, halves, to_avatar, numbers, avatar_2, own_avatar, mark}
use Rattle.seam_rule_rounds.specs.Prelude.{pay, promote}
use Rattle.seam_defs.specs.declared.flags.Part.TheVariants as part
use Rattle.seam_call.specs.declared.sender.Sender.TheVariants as sender
use Rattle.seam_call.specs.declared.shown.ClientText.TheVariants as text

pub own_text : client_text builtin (to_avatar 1 (text.Shown (Own 0 own_avatar))) ≡ codes "to 1 1 own 0 7 8 hp=100 mana=50 xp=0\n"
unfolding decimal_of
own_text = refl

pub base_text : client_text builtin (to_avatar 2 (text.Base 1 (numbers (2 ∷ [])))) ≡ codes "to 1 2 base 1 rank=2\n"
unfolding decimal_of
base_text = refl

pub enter_text : client_text builtin (to_avatar 3 (text.Shown (Enter 2 avatar_2))) ≡ codes "to 1 3 enter 2 Avatar 4 7 8 hp=75 mood=0\n"
unfolding decimal_of
enter_text = refl

pub set_text : client_text builtin (to_avatar 4 (text.Shown (Set 2 avatar_2))) ≡ codes "to 1 4 set 2 4 7 8 hp=75 mood=0\n"
unfolding decimal_of
set_text = refl

pub leave_text : client_text builtin (to_avatar 5 (text.Shown (Leave 2))) ≡ codes "to 1 5 leave 2\n"
unfolding decimal_of
leave_text = refl

pub bound_text : bounds_text (Some halves) ≡ codes "bound 1 x 5000\n"
unfolding decimal_of
bound_text = refl

pub cut_text : refusal 7 (CutRefused TooManyCells) ≡ codes "line 7 tree 3\n"
unfolding decimal_of
cut_text = refl

pub shift_text : refusal 8 (ShiftRefused WouldEmpty) ≡ codes "line 8 tree 2\n"
unfolding decimal_of
shift_text = refl

base_is_no_cell : part.Base ≡ part.Cell → ⊥
base_is_no_cell same = cc

pub not_exposed : ¬ (MayCall (sender.Client 1) 1 mark)
not_exposed may = false≢true may.0

pub own_base : MayCall (sender.Client 1) 1 promote
own_base = (refl, inr refl)

pub other_base : ¬ (MayCall (sender.Client 1) 2 promote)
other_base may = elim may.1 [ inl same ↦ base_is_no_cell same | inr same ↦ omega (arith, same) ]

pub own_base_not_exposed : ¬ (MayCall (sender.Client 1) 1 pay)
own_base_not_exposed may = false≢true may.0
