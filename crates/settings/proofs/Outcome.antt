-- The check has one outcome.
use Rattle.std.proofs.Common.{◌≡◌, ℕ, zero, suc, List, Result, Ok, Err, Option, Some, None, true, true≢false, refl, ap, sym, ◌∙◌, arith}
use Rattle.rules.specs.Machines.{numbered, known}
use Rattle.settings.specs.Numbers.{algo_number, refusal_number, Numbered, Named}
use Rattle.settings.specs.Check.{Checked}
use Rattle.settings.specs.declared.trial.Trial.{Trial}
use Rattle.settings.specs.declared.algo.Algo.{Algo}
use Rattle.settings.specs.declared.algo.Algo.TheVariants.{Ticket, Mcs, Central, Dissem, Tree}
use Rattle.settings.specs.declared.refusal.Refusal.{Refusal}
use Rattle.settings.specs.declared.refusal.Refusal.TheVariants.{Malformed, Unknown, Outside, Stray, TooMany, TooShort}
use Rattle.settings.specs.declared.record.Settings.{Settings}

-- no two machines have the same number, and no two refusals
algo_of : ℕ → Algo
algo_of zero = Tree
algo_of (suc zero) = Ticket
algo_of (suc (suc zero)) = Mcs
algo_of (suc (suc (suc zero))) = Central
algo_of (suc (suc (suc (suc zero)))) = Dissem
algo_of (suc (suc (suc (suc (suc n))))) = Tree

algo_back : (a : Algo) → algo_of (algo_number a) ≡ a
unfolding algo_of
algo_back Ticket = refl
algo_back Mcs = refl
algo_back Central = refl
algo_back Dissem = refl
algo_back Tree = refl

pub same_algo : (a b : Algo) → algo_number a ≡ algo_number b → a ≡ b
same_algo a b e = sym (algo_back a) ∙ ap algo_of e ∙ algo_back b

refusal_of : ℕ → Refusal
refusal_of zero = TooShort
refusal_of (suc zero) = Malformed
refusal_of (suc (suc zero)) = Unknown
refusal_of (suc (suc (suc zero))) = Outside
refusal_of (suc (suc (suc (suc zero)))) = Stray
refusal_of (suc (suc (suc (suc (suc zero))))) = TooMany
refusal_of (suc (suc (suc (suc (suc (suc n)))))) = TooShort

refusal_back : (r : Refusal) → refusal_of (refusal_number r) ≡ r
unfolding refusal_of
refusal_back Malformed = refl
refusal_back Unknown = refl
refusal_back Outside = refl
refusal_back Stray = refl
refusal_back TooMany = refl
refusal_back TooShort = refl

pub same_refusal : (a b : Refusal) → refusal_number a ≡ refusal_number b → a ≡ b
same_refusal a b e = sym (refusal_back a) ∙ ap refusal_of e ∙ refusal_back b

pub refused : (r : Refusal) → refusal_number r ≡ 0 → ⊥
refused Malformed e = omega arith
refused Unknown e = omega arith
refused Outside e = omega arith
refused Stray e = omega arith
refused TooMany e = omega arith
refused TooShort e = omega arith

-- the same refusal, or the same machine, settings and schedule
abbrev pub Same : Result Trial Refusal → Result Trial Refusal → Type 0
Same (Ok a) (Ok b) = (a.algo ≡ b.algo) × (a.settings ≡ b.settings) × (a.schedule.now ≡ b.schedule.now)
Same (Ok a) (Err q) = ⊥
Same (Err p) (Ok b) = ⊥
Same (Err p) (Err q) = p ≡ q

pub one_outcome : (s : Settings) (t : List ℕ) (r r' : Result Trial Refusal) → Checked s t r → Checked s t r' → Same r r'
one_outcome s t (Ok a) (Ok b) c c' =
    let e = c.settings a (λ i. Ok a) ∙ sym (c'.settings b (λ i. Ok b)) in
    (same_algo _ _ (sym a.named ∙ ap (λ (s : Settings). s.algo) e ∙ b.named), e, c.schedule a (λ i. Ok a) ∙ sym (c'.schedule b (λ i. Ok b)))
one_outcome s t (Ok a) (Err q) c c' = refused q (c'.number ∙ sym c.number)
one_outcome s t (Err p) (Ok b) c c' = refused p (c.number ∙ sym c'.number)
one_outcome s t (Err p) (Err q) c c' = same_refusal p q (c.number ∙ sym c'.number)

-- ---- `Algo::try_from` and `Algo::named`

known_algo : (a : Algo) → known (numbered (algo_number a)) ≡ true
known_algo Ticket = refl
known_algo Mcs = refl
known_algo Central = refl
known_algo Dissem = refl
known_algo Tree = refl

some_algo : (a : Algo) → algo_number a ≡ 0 → ⊥
some_algo Ticket e = omega arith
some_algo Mcs e = omega arith
some_algo Central e = omega arith
some_algo Dissem e = omega arith
some_algo Tree e = omega arith

pub one_machine : (n : ℕ) (r q : Result Algo Refusal) → Numbered n r → Numbered n q → r ≡ q
one_machine n (Ok a) (Ok b) x y = ap Ok (same_algo a b (sym x ∙ y))
one_machine n (Ok a) (Err q) x y = let k : known (numbered n) ≡ true = rw x (known_algo a) in absurd (true≢false (sym k ∙ y.1))
one_machine n (Err p) (Ok b) x y = let k : known (numbered n) ≡ true = rw y (known_algo b) in absurd (true≢false (sym k ∙ x.1))
one_machine n (Err p) (Err q) x y = ap Err (x.0 ∙ sym y.0)

pub one_name : (name : List ℕ) (r q : Option Algo) → Named name r → Named name q → r ≡ q
one_name name (Some a) (Some b) x y = ap Some (same_algo a b (sym x ∙ y))
one_name name (Some a) None x y = absurd (some_algo a (sym x ∙ y))
one_name name None (Some b) x y = absurd (some_algo b (sym y ∙ x))
one_name name None None x y = refl
