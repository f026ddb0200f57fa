-- Which causes may hold against a command of each kind: what is so of each of these is so of every one that holds.
use Rattle.std.proofs.Common.{ℕ, List}
use Rattle.seam_tree.specs.declared.tree.CutError.{CutError}
use Rattle.seam_tree.specs.declared.tree.ShiftError.{ShiftError}
use Rattle.seam_rule_lines.specs.Language.{Create, Call, Move, Client, Tick, Cut, Shift, Balance, Destroy}
use Rattle.seam_toml.specs.declared.header.Header.{Header}
use Rattle.seam_rule_lines.specs.Book.{Book}
use Rattle.seam_rule_lines.specs.Judging.{HoldsAgainst}
use Rattle.seam_rule_lines.specs.declared.verdict.Cause.{Cause}
use Rattle.seam_rule_lines.specs.declared.verdict.Cause.TheVariants as cause

-- against a `create`
pub against_create : (h : Header) (b : Book) (e n x z : List ℕ) (P : Cause → Type 0)
    → (HoldsAgainst h b (Create e n x z) cause.BadNumber → P cause.BadNumber)
    → (HoldsAgainst h b (Create e n x z) cause.Exists → P cause.Exists)
    → (HoldsAgainst h b (Create e n x z) cause.NoType → P cause.NoType)
    → (HoldsAgainst h b (Create e n x z) cause.Outside → P cause.Outside)
    → (HoldsAgainst h b (Create e n x z) cause.Full → P cause.Full)
    → (k : Cause) → HoldsAgainst h b (Create e n x z) k → P k
against_create h b e n x z P number exists type_ outside full cause.BadNumber holds = number holds
against_create h b e n x z P number exists type_ outside full cause.Exists holds = exists holds
against_create h b e n x z P number exists type_ outside full cause.NoType holds = type_ holds
against_create h b e n x z P number exists type_ outside full cause.Outside holds = outside holds
against_create h b e n x z P number exists type_ outside full cause.Full holds = full holds
against_create h b e n x z P number exists type_ outside full k holds = absurd holds

-- against a `call`
pub against_call : (h : Header) (b : Book) (s e n : List ℕ) (a : List (List ℕ)) (P : Cause → Type 0)
    → (HoldsAgainst h b (Call s e n a) cause.BadNumber → P cause.BadNumber)
    → (HoldsAgainst h b (Call s e n a) cause.NoSender → P cause.NoSender)
    → (HoldsAgainst h b (Call s e n a) cause.Dead → P cause.Dead)
    → (HoldsAgainst h b (Call s e n a) cause.UnknownMethod → P cause.UnknownMethod)
    → (HoldsAgainst h b (Call s e n a) cause.IllTyped → P cause.IllTyped)
    → (k : Cause) → HoldsAgainst h b (Call s e n a) k → P k
against_call h b s e n a P number sender dead unknown ill cause.BadNumber holds = number holds
against_call h b s e n a P number sender dead unknown ill cause.NoSender holds = sender holds
against_call h b s e n a P number sender dead unknown ill cause.Dead holds = dead holds
against_call h b s e n a P number sender dead unknown ill cause.UnknownMethod holds = unknown holds
against_call h b s e n a P number sender dead unknown ill cause.IllTyped holds = ill holds
against_call h b s e n a P number sender dead unknown ill k holds = absurd holds

-- against a `move`
pub against_move : (h : Header) (b : Book) (s e x z : List ℕ) (P : Cause → Type 0)
    → (HoldsAgainst h b (Move s e x z) cause.BadNumber → P cause.BadNumber)
    → (HoldsAgainst h b (Move s e x z) cause.NoSender → P cause.NoSender)
    → (HoldsAgainst h b (Move s e x z) cause.Dead → P cause.Dead)
    → (HoldsAgainst h b (Move s e x z) cause.UnknownMethod → P cause.UnknownMethod)
    → (HoldsAgainst h b (Move s e x z) cause.IllTyped → P cause.IllTyped)
    → (k : Cause) → HoldsAgainst h b (Move s e x z) k → P k
against_move h b s e x z P number sender dead unknown ill cause.BadNumber holds = number holds
against_move h b s e x z P number sender dead unknown ill cause.NoSender holds = sender holds
against_move h b s e x z P number sender dead unknown ill cause.Dead holds = dead holds
against_move h b s e x z P number sender dead unknown ill cause.UnknownMethod holds = unknown holds
against_move h b s e x z P number sender dead unknown ill cause.IllTyped holds = ill holds
against_move h b s e x z P number sender dead unknown ill k holds = absurd holds

-- against a `client`
pub against_client : (h : Header) (b : Book) (e : List ℕ) (P : Cause → Type 0)
    → (HoldsAgainst h b (Client e) cause.BadNumber → P cause.BadNumber)
    → (HoldsAgainst h b (Client e) cause.Exists → P cause.Exists)
    → (HoldsAgainst h b (Client e) cause.Full → P cause.Full)
    → (HoldsAgainst h b (Client e) cause.Dead → P cause.Dead)
    → (k : Cause) → HoldsAgainst h b (Client e) k → P k
against_client h b e P number exists full dead cause.BadNumber holds = number holds
against_client h b e P number exists full dead cause.Exists holds = exists holds
against_client h b e P number exists full dead cause.Full holds = full holds
against_client h b e P number exists full dead cause.Dead holds = dead holds
against_client h b e P number exists full dead k holds = absurd holds

-- against a `destroy`
pub against_destroy : (h : Header) (b : Book) (e : List ℕ) (P : Cause → Type 0)
    → (HoldsAgainst h b (Destroy e) cause.BadNumber → P cause.BadNumber)
    → (HoldsAgainst h b (Destroy e) cause.Dead → P cause.Dead)
    → (k : Cause) → HoldsAgainst h b (Destroy e) k → P k
against_destroy h b e P number dead cause.BadNumber holds = number holds
against_destroy h b e P number dead cause.Dead holds = dead holds
against_destroy h b e P number dead k holds = absurd holds

-- against a `cut`
pub against_cut : (h : Header) (b : Book) (c a at : List ℕ) (P : Cause → Type 0)
    → (HoldsAgainst h b (Cut c a at) cause.BadNumber → P cause.BadNumber)
    → ((error : CutError) → HoldsAgainst h b (Cut c a at) (cause.CutRefused error) → P (cause.CutRefused error))
    → (k : Cause) → HoldsAgainst h b (Cut c a at) k → P k
against_cut h b c a at P number tree cause.BadNumber holds = number holds
against_cut h b c a at P number tree (cause.CutRefused error) holds = tree error holds
against_cut h b c a at P number tree k holds = absurd holds

-- against a `shift`
pub against_shift : (h : Header) (b : Book) (n at : List ℕ) (P : Cause → Type 0)
    → (HoldsAgainst h b (Shift n at) cause.BadNumber → P cause.BadNumber)
    → ((error : ShiftError) → HoldsAgainst h b (Shift n at) (cause.ShiftRefused error) → P (cause.ShiftRefused error))
    → (k : Cause) → HoldsAgainst h b (Shift n at) k → P k
against_shift h b n at P number tree cause.BadNumber holds = number holds
against_shift h b n at P number tree (cause.ShiftRefused error) holds = tree error holds
against_shift h b n at P number tree k holds = absurd holds

-- nothing holds against a `tick` and a `balance`
pub none_against_tick : (h : Header) (b : Book) (k : Cause) → ¬ (HoldsAgainst h b Tick k)
none_against_tick h b k holds = holds

pub none_against_balance : (h : Header) (b : Book) (k : Cause) → ¬ (HoldsAgainst h b Balance k)
none_against_balance h b k holds = holds
