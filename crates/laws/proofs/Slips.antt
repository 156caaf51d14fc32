-- Each slip of document 01 is shown by its order of turns.
use mathlib.Core.Path.{◌≡◌, refl, sym, ap, ◌∙◌}
use mathlib.Core.Logic.{◌≢◌}
use mathlib.Core.Bool.{true, ◌&&◌}
use mathlib.Core.List.{List, [], ◌∷◌, ◌++◌, append-nil}
use Prim.Native.Nat.{ℕ, zero, suc, ◌+◌, ◌≤◌, ◌<◌}
use native.Mathlib.Omega.{arith}
use lib.Dec.{eqb, leb}
use lib.ListN.{length, length-append, take}
use Rattle.rules.specs.Memory.{upd}
use Rattle.rules.specs.Settings.{Settings, entry}
use Rattle.rules.specs.Step.{remote, join, grant, release, arrive, leave, Event, event, Machine}
use Rattle.rules.specs.Course.{Turn, turn}
use Rattle.rules.specs.Play.{next, taking, within, after, play, whole}
use Rattle.rules.specs.Calls.{all_below}
use Rattle.rules.specs.Ticket as ticket
use Rattle.rules.specs.Mcs as mcs
use Rattle.rules.specs.Central as central
use Rattle.rules.specs.Dissem as dissem
use Rattle.laws.specs.Laws.{of, times, InLine, waits, PassedOver, OutOfOrder, Early, Freezes, Slips}
use Rattle.laws.specs.Slips.{Slip, not_cleared, linked_first, forgotten, less_than, toggled, reset_late, slip1, slip2, slip3, slip4, slip5a, slip5b, slip6}
use Rattle.laws.proofs.Waiting.{lasts}
use Rattle.laws.proofs.Steadiness.{goes_on, calm_or, AllCalm, steady, ticket_waits_calm, ticket_calm, mcs_calm, central_calm, dissem_calm, altered_calm, exchanged_calm}

-- ---- demand 3 broken

passed_over : (m : Machine) (s : Settings) (t : List ℕ) → PassedOver m s t → ¬ (InLine m s t)
unfolding all_below
passed_over m s t p l =
    let w = l.first_next p.nobody_holds p.first p.behind p.in_line [] refl tt in
    p.not_granted (rw (append-nil t) at w p.taken)

out_of_order : (m : Machine) (s : Settings) (t : List ℕ) → OutOfOrder (whole m s t).events → ¬ (InLine m s t)
out_of_order m s t p l = p l.granted

-- ---- two boards

-- what holds of 0 and 1 holds of both
both_boards : (P : ℕ → Type 0) → P 0 → P 1 → (i : ℕ) → i < 2 → P i
both_boards P a b zero l = a
both_boards P a b (suc zero) l = b
both_boards P a b (suc (suc i)) l = absurd (omega arith)

-- neither has left more often than the other, or itself, has arrived
not_early : (es : List Event) → times 0 (of leave es) ≤ times 0 (of arrive es) → times 0 (of leave es) ≤ times 1 (of arrive es)
    → times 1 (of leave es) ≤ times 0 (of arrive es) → times 1 (of leave es) ≤ times 1 (of arrive es) → ¬ (Early 2 es)
not_early es a b c d e =
    let h = both_boards (λ i. (j : ℕ) → j < 2 → times i (of leave es) ≤ times j (of arrive es))
    (both_boards (λ j. times 0 (of leave es) ≤ times j (of arrive es)) a b) (both_boards (λ j. times 1 (of leave es) ≤ times j (of arrive es)) c d) in
    omega (arith, e.before, h e.left e.two_of_them.0 e.missing e.two_of_them.1)

module _ (w : Slip) (two : w.settings.procs ≡ 2) where
  abbrev wrong : ℕ → Turn w.wrong.State
  wrong i = next w.wrong w.settings (whole w.wrong w.settings w.order) i

  abbrev right : ℕ → Type 0
  right i = (whole w.right w.settings (w.order ++ w.rest)).course.done i ≡ entry w.settings.rounds i

  freezes : AllCalm w.wrong → (who : ℕ) → who < 2
      → (whole w.wrong w.settings w.order).course.done who < entry w.settings.rounds who
      → waits (wrong 0) ≡ true → waits (wrong 1) ≡ true → (whole w.wrong w.settings (w.order ++ w.rest)).events ≡ w.heard
      → right 0 → right 1 → Freezes w
  freezes calm who l h a b e c d = record {
    frozen = lasts w.wrong (steady w.wrong calm) w.settings w.order (record {
      who = who;
      one_of_them = omega arith;
      passages_left = h;
      all_wait = λ i l. both_boards (λ i. waits (wrong i) ≡ true) a b i (rw two at l);
    });
    heard = e;
    right = λ i l. both_boards right c d i (rw two at l);
  }

-- a turn that says nothing passes over board 1, where it alone is in line and nobody holds
passed : (m : Machine) (s : Settings) (t : List ℕ) → 1 < s.procs → length (of grant (whole m s t).events) ≡ length (of release (whole m s t).events)
    → of join (whole m s t).events ≡ of grant (whole m s t).events ++ 1 ∷ [] → (whole m s (t ++ 1 ∷ [])).taken ≡ suc (whole m s t).taken
    → (whole m s (t ++ 1 ∷ [])).events ≡ (whole m s t).events → PassedOver m s t
passed m s t l h j k e = record {
  nobody_holds = h;
  first = 1;
  behind = [];
  in_line = j;
  one_of_them = l;
  taken = k;
  not_granted = λ z. omega (arith, ap length (sym e ∙ z), length-append (whole m s t).events (event grant 1 ∷ []));
}

-- the first who is let in is not the first who joined
other_first : (es : List Event) (f g : ℕ) (a b : List ℕ) → of grant es ≡ f ∷ a → of join es ≡ g ∷ b → f ≢ g → OutOfOrder es
other_first es f g a b e h n p = n (same (f ∷ a) p.rest (g ∷ b) refl refl (rw (e, h) at p.adds))
  where
    same : (l r k : List ℕ) → l ≡ f ∷ a → k ≡ g ∷ b → l ++ r ≡ k → f ≡ g
    same l r k x y z = cc

-- ---- a spin changes nothing in the wrong machines either

calm1 : AllCalm not_cleared
calm1 = altered_calm mcs.machine 1 _ (λ s x i. goes_on refl) mcs_calm

calm2 : AllCalm linked_first
calm2 = exchanged_calm mcs.machine 3 4 _ _ (λ s x i. goes_on refl) (λ s x i. goes_on refl) mcs_calm

calm3 : AllCalm forgotten
calm3 = altered_calm mcs.machine 8 _ (λ s x i. goes_on refl) mcs_calm

calm4 : AllCalm less_than
calm4 = altered_calm ticket.machine 2 _ (λ s x i. ticket_waits_calm s x (leb (x.mine i) x.release)) ticket_calm

calm5 : AllCalm toggled
calm5 =
    altered_calm dissem.machine 2 _ (λ s x i.
    calm_or (eqb (x.flag i (dissem.variable x i (x.round i))) (x.sense i) && eqb (x.round i + 1) (dissem.doublings s.procs)) (goes_on refl) (dissem_calm s x 2 i)) dissem_calm

calm6 : AllCalm reset_late
calm6 = exchanged_calm central.machine 2 3 _ _ (λ s x i. goes_on refl) (λ s x i. goes_on refl) central_calm

-- ---- the slips

pub slips : Slips
unfolding whole play after within taking turn remote upd ticket.step mcs.step central.step dissem.step dissem.doublings dissem.doubled
slips = record {
  passed_over = passed_over;
  out_of_order = out_of_order;
  one = (passed _ _ _ (omega arith) refl refl refl refl, freezes slip1 refl calm1 1 (omega arith) (omega arith) refl refl refl refl refl);
  two = (passed _ _ _ (omega arith) refl refl refl refl, freezes slip2 refl calm2 1 (omega arith) (omega arith) refl refl refl refl refl);
  three = (passed _ _ _ (omega arith) refl refl refl refl, freezes slip3 refl calm3 1 (omega arith) (omega arith) refl refl refl refl refl);
  -- 1 is let in, and 0 joined first
  four = (
    other_first (whole less_than slip4.settings (take 3 slip4.order)).events 1 0 [] (1 ∷ []) refl refl (λ z. omega arith),
    freezes slip4 refl calm4 0 (omega arith) (omega arith) refl refl refl refl refl,
  );
  five_a = (not_early _ (omega arith) (omega arith) (omega arith) (omega arith), freezes slip5a refl calm5 0 (omega arith) (omega arith) refl refl refl refl refl);
  six = (not_early _ (omega arith) (omega arith) (omega arith) (omega arith), freezes slip6 refl calm6 0 (omega arith) (omega arith) refl refl refl refl refl);
  -- 0 has left twice, 1 has arrived once; with the right barrier 0 has left once
  five_b = (
    refl,
    record { left = 0; missing = 1; two_of_them = (omega arith, omega arith); before = omega arith },
    not_early _ (omega arith) (omega arith) (omega arith) (omega arith),
    both_boards (right slip5b refl) refl refl,
  );
}
