-- Words spell one command.
use Rattle.std.proofs.Common.{◌≡◌, ℕ, cond, List, [], ◌∷◌, Option, Some, None, refl, sym, ap, ◌∙◌, arith}
use Rattle.std.specs.Prelude.{codes}
use Rattle.std.specs.Str.{bytes_eq}
use Rattle.std.proofs.lemmas.Option.{same_Some}
use Rattle.seam_words.proofs.WordTexts.{words_are_one_list}
use Rattle.seam_rule_lines.specs.Language.{Command, Create, Call, Move, Sync, Client, Tick, Cut, Shift, Balance, Destroy, words_of}
use Rattle.seam_rule_lines.specs.Language.{SpellsCommand, NamesCommand}

-- a command of the words after the first one
abbrev Rest : Type 0
Rest = List (List ℕ) → Option Command

no_more : Command → Rest
no_more c [] = Some c
no_more c (w ∷ ws) = None

one_more : (List ℕ → Command) → Rest
one_more make [] = None
one_more make (w ∷ ws) = no_more (make w) ws

two_more : (List ℕ → List ℕ → Command) → Rest
two_more make [] = None
two_more make (w ∷ ws) = one_more (make w) ws

three_more : (List ℕ → List ℕ → List ℕ → Command) → Rest
three_more make [] = None
three_more make (w ∷ ws) = two_more (make w) ws

four_more : (List ℕ → List ℕ → List ℕ → List ℕ → Command) → Rest
four_more make [] = None
four_more make (w ∷ ws) = three_more (make w) ws

call_of : Rest
call_of (s ∷ e ∷ m ∷ arguments) = Some (Call s e m arguments)
call_of ws = None

-- the command that a first word and those after it spell
read : List ℕ → Rest
read w ws =
    cond (bytes_eq w (codes "create")) (four_more Create ws)
    (cond (bytes_eq w (codes "call")) (call_of ws)
    (cond (bytes_eq w (codes "move")) (four_more Move ws)
    (cond (bytes_eq w (codes "sync")) (no_more Sync ws)
    (cond (bytes_eq w (codes "client")) (one_more Client ws)
    (cond (bytes_eq w (codes "tick")) (no_more Tick ws)
    (cond (bytes_eq w (codes "cut")) (three_more Cut ws)
    (cond (bytes_eq w (codes "shift")) (two_more Shift ws)
    (cond (bytes_eq w (codes "balance")) (no_more Balance ws)
    (cond (bytes_eq w (codes "destroy")) (one_more Destroy ws) None)))))))))

command_of : List (List ℕ) → Option Command
command_of [] = None
command_of (w ∷ ws) = read w ws

-- the words of a command spell it
spell : (c : Command) → command_of (words_of c) ≡ Some c
unfolding command_of read four_more three_more two_more one_more no_more call_of
spell (Create e t x z) = refl
spell _ = refl

pub command_is_one : (c d : Command) → words_of c ≡ words_of d → c ≡ d
command_is_one c d same = same_Some c d (sym (spell c) ∙ ap command_of same ∙ spell d)

-- and so does a line
pub line_spells_one : (line : List ℕ) (c d : Command) → SpellsCommand line c → SpellsCommand line d → c ≡ d
line_spells_one line c d one other = command_is_one c d (words_are_one_list line (words_of c) (words_of d) one other)

-- the first word of a command names one
pub command_is_named : (c : Command) → NamesCommand (words_of c)
command_is_named (Create e n x z) = (0, omega arith, refl)
command_is_named (Call s e n a) = (1, omega arith, refl)
command_is_named (Move s e x z) = (2, omega arith, refl)
command_is_named Sync = (3, omega arith, refl)
command_is_named (Client e) = (4, omega arith, refl)
command_is_named Tick = (5, omega arith, refl)
command_is_named (Cut c a at) = (6, omega arith, refl)
command_is_named (Shift b at) = (7, omega arith, refl)
command_is_named Balance = (8, omega arith, refl)
command_is_named (Destroy e) = (9, omega arith, refl)
