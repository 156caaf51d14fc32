-- The table of machines, and what a file's first line names.
use mathlib.Core.Path.{◌≡◌, refl, sym, ap, ◌∙◌, subst}
use mathlib.Core.Logic.{inl, inr}
use mathlib.Core.Bool.{true}
use mathlib.Core.List.{List, [], ◌∷◌, ◌++◌, append_assoc, append_cancel_left}
use Prim.Native.Nat.{ℕ, ◌+◌, ◌≤◌}
use native.Mathlib.Omega.{arith}
use lib.Dec.{eqb}
use lib.ListN.{length}
use Rattle.rules.specs.Settings.{Settings}
use Rattle.rules.specs.Machines.{bytes, lock, barrier, table, numbered, known}
use Rattle.rules.specs.Rule.{ok, feed}
use Rattle.rules.specs.File.{name, text}
use Rattle.rules.specs.Calls.{reading}
use Rattle.rules.proofs.Known.{found, known_number, unknown_number}
use Rattle.rules.proofs.Store.{false_true}
use Rattle.laws.specs.Laws.{Prefix, settings_of, turns_of, LockFile, Machines}
use Rattle.laws.proofs.Names.{exact_name}
use Rattle.laws.proofs.Files.{read_accepts}

-- the line that names a machine
abbrev naming : List ℕ → List ℕ
naming name = bytes "algo=" ++ (name ++ feed ∷ [])

text_begins : (s : Settings) (t : List ℕ) → Prefix (naming (numbered s.algo).name) (text s t)
unfolding text
text_begins s t = record { rest = _; adds = append_assoc (bytes "algo=") ((numbered s.algo).name ++ feed ∷ []) _ }

first_line : (file schedule : List ℕ) → (reading file schedule).answer.number ≡ 0 → Prefix (naming (numbered (settings_of (reading file schedule)).algo).name) file
first_line file schedule h =
    let r = reading file schedule in
    subst (λ (b : List ℕ). Prefix (naming (numbered (settings_of r).algo).name) b) (sym (read_accepts file schedule h).1) (text_begins (settings_of r) (turns_of r))

-- a file that begins with the names of two machines: they are the same
one_name : (m n : ℕ) (file : List ℕ) → known (numbered m) ≡ true → known (numbered n) ≡ true
    → Prefix (naming (numbered m).name) file → Prefix (naming (numbered n).name) file → m ≡ n
one_name m n file k l p q =
    let a = (numbered m).name ++ feed ∷ [] in
    let b = (numbered n).name ++ feed ∷ [] in
    let e : bytes "algo=" ++ (a ++ p.rest) ≡ bytes "algo=" ++ (b ++ q.rest) =
    sym (append_assoc (bytes "algo=") a p.rest) ∙ p.adds ∙ sym q.adds ∙ append_assoc (bytes "algo=") b q.rest
    in
    let f = append_cancel_left (bytes "algo=") (a ++ p.rest) (b ++ q.rest) e in
    let g : ok m p.rest (0 + length a) ≡ ok n q.rest (0 + length b) =
    sym (exact_name.reads m k p.rest 0) ∙ ap (λ (w : List ℕ). name w 0) f ∙ exact_name.reads n l q.rest 0
    in
    cc

no_other_line : (file schedule : List ℕ) (n : ℕ) → (reading file schedule).answer.number ≡ 0 → 1 ≤ n → n ≤ 5
    → Prefix (naming (numbered n).name) file → (settings_of (reading file schedule)).algo ≡ n
no_other_line file schedule n h l u p =
    one_name _ n file (read_accepts file schedule h).0.algo (known_number n l u) (first_line file schedule h) p

lock_file : (file schedule : List ℕ) → (reading file schedule).answer.number ≡ 0 → LockFile file → (numbered (settings_of (reading file schedule)).algo).sort ≡ lock
lock_file file schedule h (inl p) = rw (no_other_line file schedule 1 h (omega arith) (omega arith) p) refl
lock_file file schedule h (inr p) = rw (no_other_line file schedule 2 h (omega arith) (omega arith) p) refl

lock_only : (file schedule : List ℕ) → (reading file schedule).answer.number ≡ 0 → (numbered (settings_of (reading file schedule)).algo).sort ≡ lock → LockFile file
lock_only file schedule h n =
    found (λ l. known l ≡ true → l.sort ≡ lock → Prefix (naming l.name) file → LockFile file) (λ l. eqb (settings_of (reading file schedule)).algo l.number) table
    (λ k l p. inl p, (λ k l p. inr p, (λ k. no_lock, (λ k. no_lock, (λ k. no_lock, λ k. absurd (false_true k))))))
    (read_accepts file schedule h).0.algo n (first_line file schedule h)
  where
    no_lock : {A : Type 0} → barrier ≡ lock → A → LockFile file
    no_lock e = let z : ◌≡◌ {A = ℕ} 0 1 = cc in absurd (omega arith)

pub machines_law : Machines
machines_law = record {
  whole_table = refl;
  numbers = refl;
  not_0 = refl;
  none_above = λ n h. unknown_number n (inr (omega arith));
  first_line = first_line;
  no_other_line = no_other_line;
  lock_file = lock_file;
  lock_only = lock_only;
}
