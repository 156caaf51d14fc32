-- A file: it is read exactly where it is written.
use Prim.Native.Nat.{ℕ, zero, suc, ◌+◌, ◌-◌, ◌≤◌, ◌<◌}
use mathlib.Core.Path.{◌≡◌, refl, ap, sym, ◌∙◌, subst}
use mathlib.Core.List.{List, [], ◌∷◌, ◌++◌, append_assoc, append-nil}
use mathlib.Core.Bool.{true}
use mathlib.Core.Logic.{◌⊎◌, inl, inr}
use lib.ListN.{length, replicate}
use native.Mathlib.Omega.{arith}
use Rattle.rules.specs.Bounds.{most_procs, most_ticket, most_budget}
use Rattle.rules.specs.Settings.{Settings, entry, zeros}
use Rattle.rules.specs.Machines.{bytes, numbered, known}
use Rattle.rules.specs.Rule.{Got, ok, fault, Rule, after, ◌>>=◌, ◌>>◌, give, feed, end}
use Rattle.rules.specs.File.{Front, front, settings, rest, whole, file, field_text, text}
use Rattle.rules.proofs.Accepted.{Row, Accepted}
use Rattle.laws.proofs.Exact.{not_fault, not_ok, on-after, after-refuses, same_number, Exact, exact_then, exact_give, exact_as, exact_lit}
use Rattle.laws.proofs.Names.{exact_name}
use Rattle.laws.proofs.Whole.{Agree, Rows, exact_field, exact_rows}
use Rattle.laws.proofs.Turns.{Turns, exact_turns}

-- ---- the rows

zero_entry : (n j : ℕ) → entry (replicate n 0) j ≡ 0
zero_entry zero j = refl
zero_entry (suc n) zero = refl
zero_entry (suc n) (suc j) = zero_entry n j

agree_row : (procs most : ℕ) (row : List ℕ) → Agree procs 0 most zeros row → Row procs most row
agree_row procs most row a = record {
  fits = λ i h. a.most i (omega arith) (omega arith);
  past = λ i h. a.other i (inr (omega arith)) ∙ zero_entry most_procs i;
}

row_agree : (procs most : ℕ) (row : List ℕ) → length row ≡ most_procs → Row procs most row → Agree procs 0 most zeros row
row_agree procs most row e r = record { long = e; other = other; most = λ j l u. r.fits j (omega arith) }
  where
    other : (j : ℕ) → (j < 0) ⊎ (0 + procs ≤ j) → entry row j ≡ entry zeros j
    other j (inl l) = absurd (omega arith)
    other j (inr l) = r.past j (omega arith) ∙ sym (zero_entry most_procs j)

-- ---- the five lines before the processors'

pub record Opened (f : Front) : Type 0 where
  pub algo : known (numbered f.algo) ≡ true
  pub procs_low : 1 ≤ f.procs
  pub procs_high : f.procs ≤ most_procs
  pub home : f.home < f.procs
  pub ticket : f.ticket ≤ most_ticket
  pub budget : f.budget ≤ most_budget

unfoldable pub front_text : Front → List ℕ
front_text f =
    bytes "algo=" ++ (((numbered f.algo).name ++ feed ∷ [])
    ++ (field_text (bytes "procs=") f.procs
    ++ (field_text (bytes "home=") f.home
    ++ (field_text (bytes "ticket=") f.ticket
    ++ field_text (bytes "budget=") f.budget))))

pub exact_front : Exact front front_text Opened
unfolding front front_text
exact_front =
    exact_as
    (exact_then (exact_lit (bytes "algo="))
    (λ u p. exact_then exact_name
    (λ algo p. exact_then (exact_field (bytes "procs=") 1 most_procs (omega arith))
    (λ procs p. exact_then (exact_field (bytes "home=") 0 (procs - 1) (omega (arith, p.1)))
    (λ home p. exact_then (exact_field (bytes "ticket=") 0 most_ticket (omega arith))
    (λ ticket p. exact_then (exact_field (bytes "budget=") 0 most_budget (omega arith))
    (λ budget p. exact_give (record { algo = algo; procs = procs; home = home; ticket = ticket; budget = budget }))
    (λ f. f.budget) (λ a f p q. ap (λ (g : Front). g.budget) q))
    (λ f. f.ticket) (λ a f p q. ap (λ (g : Front). g.ticket) q.1))
    (λ f. f.home) (λ a f p q. ap (λ (g : Front). g.home) q.1.1))
    (λ f. f.procs) (λ a f p q. ap (λ (g : Front). g.procs) q.1.1.1))
    (λ f. f.algo) (λ a f p q. ap (λ (g : Front). g.algo) q.1.1.1.1))
    (λ f. tt) (λ a f p q. refl))
    (λ f p.
    let q = p.1.1 in
    record {
      algo = p.1.0;
      procs_low = q.0.0;
      procs_high = q.0.1;
      home = omega (arith, q.0.0, q.1.0.1);
      ticket = q.1.1.0.1;
      budget = q.1.1.1.0.1;
    })
    (λ f o.
    let home : f.home ≤ f.procs - 1 = omega (arith, o.home) in
    (tt, (o.algo, ((o.procs_low, o.procs_high), ((omega arith, home), ((omega arith, o.ticket), ((omega arith, o.budget), refl)))))))
    (λ f o. simp append-nil)

-- ---- all of it

abbrev pub body : Rule (Settings × List ℕ)
body = ◌>>=◌ front rest

abbrev pub written : Settings × List ℕ → List ℕ
written v = text v.0 v.1

-- what is read: an accepted call, with an entry for each processor
pub record Full (v : Settings × List ℕ) : Type 0 where
  pub accepted : Accepted v.0 v.1
  pub rounds_long : length v.0.rounds ≡ most_procs
  pub hold_long : length v.0.hold ≡ most_procs

abbrev pub opening : Settings → Front
opening s = record { algo = s.algo; procs = s.procs; home = s.home; ticket = s.ticket; budget = s.budget }

module _ (v : Settings × List ℕ) (w : Full v) where
  a : Accepted v.0 v.1
  a = w.accepted

  pub full_opened : Opened (opening v.0)
  full_opened =
      record { algo = a.algo; procs_low = a.procs_low; procs_high = a.procs_high; home = a.home; ticket = a.ticket; budget = a.budget }

  pub full_rows : Rows v.0.procs 0 zeros zeros (v.0.rounds, v.0.hold)
  full_rows = record { of_rounds = row_agree _ _ _ w.rounds_long a.rounds; of_hold = row_agree _ _ _ w.hold_long a.hold }

  pub full_turns : Turns v.0.procs v.1
  full_turns = (a.turns_below, a.few)

-- and back
pub to_full : (s : Settings) (ts : List ℕ) → Opened (opening s) → Rows s.procs 0 zeros zeros (s.rounds, s.hold) → Turns s.procs ts → Full (s, ts)
to_full s ts o r t = record {
  accepted = record {
    algo = o.algo;
    procs_low = o.procs_low;
    procs_high = o.procs_high;
    home = o.home;
    ticket = o.ticket;
    budget = o.budget;
    rounds = agree_row _ _ _ r.of_rounds;
    hold = agree_row _ _ _ r.of_hold;
    few = t.1;
    turns_below = t.0;
  };
  rounds_long = r.of_rounds.long;
  hold_long = r.of_hold.long;
}

pub exact_body : Exact body written Full
unfolding rest text front_text
exact_body =
    exact_as
    (exact_then exact_front
    (λ f o. exact_then (exact_rows f.procs 0 zeros zeros (omega (arith, o.procs_high)) (omega (arith, o.procs_high)))
    (λ r p. exact_then (exact_lit (bytes "turns="))
    (λ u p. exact_then (exact_turns f.procs (omega (arith, o.procs_high)))
    (λ ts p. exact_give (settings f r.0 r.1, ts))
    (λ v. v.1) (λ a v p q. ap (λ (w : Settings × List ℕ). w.1) q))
    (λ v. tt) (λ a v p q. refl))
    (λ v. (v.0.rounds, v.0.hold)) (λ a v p q. ap (λ (w : Settings × List ℕ). (w.0.rounds, w.0.hold)) q.1.1))
    (λ v. opening v.0) (λ a v p q. ap (λ (w : Settings × List ℕ). opening w.0) q.1.1.1))
    (λ v p. to_full v.0 v.1 p.0 p.1.0 p.1.1.1.0)
    (λ v w. (full_opened v w, (full_rows v w, (tt, (full_turns v w, refl)))))
    (λ v w. simp (append_assoc, append-nil))

-- ---- the file

-- nothing more, and then v
abbrev pub ending : {A : Type 0} → A → Rule A
ending v = ◌>>◌ end (give v)

ends : {A : Type 0} (v w : A) (s : List ℕ) (at : ℕ) (s' : List ℕ) (at' : ℕ) → ending v s at ≡ ok w s' at' → (s ≡ []) × (v ≡ w)
ends v w [] at s' at' e = (refl, cc)
ends v w (x ∷ s) at s' at' e = absurd (not_fault w s' at' 1 at e)

pub end_refuses : {A : Type 0} (v : A) (s : List ℕ) (at n p : ℕ) → ending v s at ≡ fault n p → n ≡ 1
end_refuses v [] at n p e = absurd (not_ok v [] at n p e)
end_refuses v (x ∷ s) at n p e = same_number 1 at n p e

-- a file that is read is the text of what is read
pub file_was : (bytes : List ℕ) (v : Settings × List ℕ) (s' : List ℕ) (at' : ℕ) → file bytes 0 ≡ ok v s' at' → (bytes ≡ written v) × Full v
unfolding file whole
file_was bytes v s' at' e =
    on-after v s' at' (body bytes 0) ending e
    (λ w s'' at'' f g.
    let z = ends w v s'' at'' s' at' g in
    let x = exact_body.was bytes 0 w s'' at'' f in
    subst (λ (y : Settings × List ℕ). (bytes ≡ written y) × Full y) z.1
    (x.0 ∙ ap (λ (l : List ℕ). written w ++ l) z.0 ∙ append-nil (written w), x.1))

-- and the text is read
pub file_reads : (v : Settings × List ℕ) → Full v → file (written v) 0 ≡ ok v [] (length (written v))
unfolding file whole
file_reads v h =
    let e : body (written v ++ []) 0 ≡ ok v [] (0 + length (written v)) = exact_body.reads v h [] 0 in
    let z : 0 + length (written v) ≡ length (written v) = omega arith in
    ap (λ (g : Got (Settings × List ℕ)). after g ending) (rw (append-nil (written v), z) at e)

-- a refusal has a number
pub file_refuses : (bytes : List ℕ) (n p : ℕ) → file bytes 0 ≡ fault n p → 0 < n
unfolding file whole
file_refuses bytes n p e =
    after-refuses (body bytes 0) ending n p e (exact_body.refuses bytes 0 n p) (λ v s at h q. omega (arith, end_refuses v s at n p q))
