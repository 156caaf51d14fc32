-- One turn more at the end of an accepted file; which refusals are of the turns; and how far read looks.
use Prim.Native.Nat.{ℕ, zero, suc, ◌+◌, ◌-◌, ◌^◌, ◌≤◌, ◌<◌}
use mathlib.Core.Path.{◌≡◌, refl, ap, sym, ◌∙◌, subst}
use mathlib.Core.Logic.{◌≢◌, inl, inr}
use mathlib.Core.List.{List, [], ◌∷◌, ◌++◌, append_assoc, append-nil, append_cancel_right}
use mathlib.Core.Bool.{Bool, false, ◌&&◌}
use lib.ListN.{length, length-append, replicate}
use lib.Dec.{ltb, leb}
use borrow.Author.Tests.{le-ltb}
use native.Mathlib.Omega.{arith}
use Rattle.rules.specs.Bounds.{most_turns}
use Rattle.rules.specs.Settings.{Settings, zeros}
use Rattle.rules.specs.Machines.{bytes}
use Rattle.rules.specs.Rule.{fault, Rule, after, give, feed, comma, lit, checked, number}
use Rattle.rules.specs.File.{decimal, rows, rows_text, turns_text, items, turns, Front, front, settings, rest, whole, file, text}
use Rattle.rules.specs.Calls.{Reading, accepted_read, refused_read, reading_of, reading}
use Rattle.laws.specs.Laws.{Prefix, Separator, OneMore, UpToTurns, Sides, settings_of, farthest}
use Rattle.laws.proofs.Exact.{not_ok, after-refuses, checked_refuses, exact_lit, lit_refuses}
use Rattle.laws.proofs.Numbers.{number_refuses, number_fails, number_stops, room_behind, digits_none}
use Rattle.laws.proofs.Names.{name_refuses}
use Rattle.laws.proofs.Whole.{Rows, exact_rows}
use Rattle.laws.proofs.Turns.{listed, listed_feed, OfTurns, turns_items, digit_not_bare, turns_refuses, turns_go}
use Rattle.laws.proofs.RoundTrip.{Opened, body, Full, front_text, opening, ending, exact_front, full_opened, full_rows, full_turns, to_full, end_refuses}
use Rattle.laws.proofs.Parts.{Kept, of_front, of_rows}
use Rattle.laws.proofs.Longest.{fullest, last_turns, all_turns, fullest_full, fullest_length}
use Rattle.laws.proofs.Judging.{nine, refused_file}
use Rattle.laws.proofs.Files.{was_read, read_text}

-- ---- the text before the turns

-- what is written before the turns
unfoldable up_to_turns : Settings → List ℕ
up_to_turns s = front_text (opening s) ++ (rows_text s.procs 0 s.rounds s.hold ++ bytes "turns=")

text_is : (s : Settings) (t : List ℕ) → text s t ≡ up_to_turns s ++ turns_text t
unfolding text up_to_turns front_text
text_is s t = simp append_assoc

module _ (v : Settings × List ℕ) (h : Full v) where
  abbrev s : Settings
  s = v.0

  place : 0 + length (front_text (opening s)) + length (rows_text s.procs 0 s.rounds s.hold) + length (bytes "turns=") ≡ length (up_to_turns s)
  unfolding up_to_turns
  place = simp length-append (omega arith)

  -- behind `turns=` of settings that are accepted the turns are read
  reached : (u : List ℕ) → file (up_to_turns s ++ u) 0
      ≡ after (after (turns s.procs u (length (up_to_turns s))) (λ ts. give (s, ts))) ending
  unfolding file whole rest up_to_turns
  reached u =
      rw (
        append_assoc,
        append_assoc,
        exact_front.reads (opening s) o (rows_text s.procs 0 s.rounds s.hold ++ (bytes "turns=" ++ u)) 0,
        (exact_rows s.procs 0 zeros zeros (omega (arith, o.procs_high)) (omega (arith, o.procs_high))
            ).reads (s.rounds, s.hold) (full_rows v h) (bytes "turns=" ++ u) (0 + length (front_text (opening s))),
        (exact_lit (bytes "turns=")).reads tt tt u (0 + length (front_text (opening s)) + length (rows_text s.procs 0 s.rounds s.hold)),
        place,
      )
    where
      o : Opened (opening s)
      o = full_opened v h

  -- and where they are refused, the file is
  turns_refused : (u : List ℕ) (n p : ℕ) → turns s.procs u (length (up_to_turns s)) ≡ fault n p → file (up_to_turns s ++ u) 0 ≡ fault n p
  turns_refused u n p e = reached u ∙ rw e

-- ---- one turn more

-- how the next turn is judged where there may be k more
abbrev next : ℕ → ℕ → Rule (ℕ × ℕ)
next zero procs = checked 5 (λ v. false) (number comma feed)
next (suc k) procs = checked 4 (λ v. ltb v.0 procs) (number comma feed)

next_refused : (k procs : ℕ) (ts u : List ℕ) (at n p : ℕ) → next k procs u at ≡ fault n p → items k procs ts u at ≡ fault n p
unfolding items
next_refused zero procs ts u at n p e = rw e
next_refused (suc k) procs ts u at n p e = rw e

-- all of a file but its last line feed
up_to_end : Settings × List ℕ → List ℕ
up_to_end v = up_to_turns v.0 ++ listed v.1

end_is : (v : Settings × List ℕ) → text v.0 v.1 ≡ up_to_end v ++ feed ∷ []
unfolding up_to_end
end_is v = text_is v.0 v.1 ∙ rw (listed_feed v.1) (sym (append_assoc (up_to_turns v.0) (listed v.1) (feed ∷ [])))

no_turns_end : (s : Settings) → up_to_end (s, []) ≡ up_to_turns s
unfolding up_to_end listed
no_turns_end s = append-nil (up_to_turns s)

-- with a comma in its place, what is refused as a further turn is
more : (s : Settings) (t : List ℕ) → Full (s, t) → 0 < length t → (u : List ℕ) (n p : ℕ)
    → items (most_turns - length t) s.procs t u (length (up_to_end (s, t)) + 1) ≡ fault n p → file (up_to_end (s, t) ++ comma ∷ u) 0 ≡ fault n p
unfolding up_to_end
more s [] h z u n p e = absurd (omega arith)
more s (t ∷ us) h z u n p e =
    let place : length (up_to_turns s ++ listed (t ∷ us)) + 1 ≡ length (up_to_turns s) + (length (listed (t ∷ us)) + 1) = simp length-append (omega arith) in
    let goes = turns_go s.procs (omega (arith, (full_opened (s, t ∷ us) h).procs_high)) t us comma (full_turns (s, t ∷ us) h) (inl refl) u (length (up_to_turns s)) in
    rw append_assoc (turns_refused (s, t ∷ us) h (listed (t ∷ us) ++ comma ∷ u) n p (goes ∙ rw (← place) e))

module _ (s : Settings) (t : List ℕ) (h : Full (s, t)) (z : 0 < length t) (schedule : List ℕ) where
  abbrev l : List ℕ
  l = up_to_end (s, t)

  refused : (k : ℕ) (u : List ℕ) (j q : ℕ) → most_turns - length t ≡ k → next k s.procs u (length l + 1) ≡ fault j q
      → reading (l ++ comma ∷ u) schedule ≡ refused_read j q schedule
  unfolding reading_of
  refused k u j q c e = rw (more s t h z u j q (rw c (next_refused k s.procs t u _ j q e)))

  many_turns : (after : List ℕ) (n x : ℕ) → length t ≡ most_turns → n < 10 ^ 9 → Separator x
      → reading (l ++ comma ∷ (decimal n ++ x ∷ after)) schedule ≡ refused_read 5 (length l + 1) schedule
  many_turns after n x c b e = refused 0 _ 5 _ (omega arith) (number_fails comma feed refl refl 5 (λ v. false) n x after _ (omega arith) e refl)

  stray_turn : (after : List ℕ) (n x : ℕ) → length t < most_turns → s.procs ≤ n → n < 10 ^ 9 → Separator x
      → reading (l ++ comma ∷ (decimal n ++ x ∷ after)) schedule ≡ refused_read 4 (length l + 1) schedule
  stray_turn after n x c f b e =
      refused (suc (most_turns - length t - 1)) _ 4 _ (omega arith)
      (number_fails comma feed refl refl 4 (λ v. ltb v.0 s.procs) n x after _ (omega arith) e (le-ltb n s.procs f))

  -- a number past the count that nothing follows
  cut_turn : (n : ℕ) → length t ≡ most_turns → n < 10 ^ 9
      → reading (l ++ comma ∷ decimal n) schedule ≡ refused_read 1 (length l + 1 + length (decimal n)) schedule
  cut_turn n c b =
      rw (append-nil (decimal n)) at
      (refused 0 (decimal n ++ []) 1 _ (omega arith) (number_stops comma feed refl refl 5 (λ v. false) n [] _ (omega arith) (digits_none comma feed (room_behind n) n _)))

-- a first turn
first_turn : (s : Settings) → Full (s, []) → (schedule after : List ℕ) (n x : ℕ) → s.procs ≤ n → n < 10 ^ 9 → Separator x
    → reading (up_to_end (s, []) ++ (decimal n ++ x ∷ after)) schedule ≡ refused_read 4 (length (up_to_end (s, []))) schedule
unfolding reading_of
first_turn s h schedule after n x f b e =
    let u : List ℕ = decimal n ++ x ∷ after in
    let fails = number_fails comma feed refl refl 4 (λ v. ltb v.0 s.procs) n x after (length (up_to_turns s)) (omega arith) e (le-ltb n s.procs f) in
    let item = turns_items s.procs u (length (up_to_turns s)) (digit_not_bare n (x ∷ after)) ∙ next_refused most_turns s.procs [] u _ 4 _ fails in
    rw (no_turns_end s, turns_refused (s, []) h u 4 _ item)

-- what is said of an accepted file, said of its text
of_text : (l schedule : List ℕ) (X : List ℕ → Type 0) → (reading (l ++ feed ∷ []) schedule).answer.number ≡ 0
    → ((s : Settings) (t : List ℕ) → Full (s, t) → settings_of (reading (l ++ feed ∷ []) schedule) ≡ s → (reading (l ++ feed ∷ []) schedule).answer.count ≡ length t
    → X (up_to_end (s, t))) → X l
of_text l schedule X h k =
    let r = was_read (l ++ feed ∷ []) schedule h in
    let v = r.value in
    let same : up_to_end v ≡ l = append_cancel_right (up_to_end v) l (feed ∷ []) (sym (end_is v) ∙ sym r.as_text) in
    subst X same (k v.0 v.1 r.full (ap settings_of r.is) (ap (λ (a : Reading). a.answer.count) r.is))

-- no turns
without : (X : List ℕ → Type 0) (t : List ℕ) → length t ≡ 0 → X [] → X t
without X [] e x = x
without X (i ∷ t) e x = absurd (omega arith)

pub one_more : OneMore
one_more = record {
  too_many = λ l after schedule n x h c b e.
      of_text l schedule (λ (m : List ℕ). reading (m ++ comma ∷ (decimal n ++ x ∷ after)) schedule ≡ refused_read 5 (length m + 1) schedule) h
      (λ s t f es ec. many_turns s t f (omega arith) schedule after n x (omega arith) b e);
  stray = λ l after schedule n x h z c p b e.
      of_text l schedule (λ (m : List ℕ). reading (m ++ comma ∷ (decimal n ++ x ∷ after)) schedule ≡ refused_read 4 (length m + 1) schedule) h
      (λ s t f es ec. stray_turn s t f (omega arith) schedule after n x (omega arith) (omega (arith, ap (λ (w : Settings). w.procs) es)) b e);
  stray_first = λ l after schedule n x h c p b e.
      of_text l schedule (λ (m : List ℕ). reading (m ++ (decimal n ++ x ∷ after)) schedule ≡ refused_read 4 (length m) schedule) h
      (λ s t f es ec.
      without (λ (ts : List ℕ). Full (s, ts) → reading (up_to_end (s, ts) ++ (decimal n ++ x ∷ after)) schedule ≡ refused_read 4 (length (up_to_end (s, ts))) schedule)
      t (omega arith) (λ g. first_turn s g schedule after n x (omega (arith, ap (λ (w : Settings). w.procs) es)) b e) f);
}

-- ---- 3 before the turns, 4 and 5 behind

-- a rule that gives neither 4 nor 5
low : Kept (λ A c r. (s : List ℕ) (at k p : ℕ) → r s at ≡ fault k p → k ≤ 3)
low = record {
  one_then = λ er lr lf s at k p e. after-refuses _ _ k p e (lr s at k p) (λ a s' at' g q. lf a (er.was s at a s' at' g).1 s' at' k p q);
  of_give = λ v s at k p e. absurd (not_ok v s at k p e);
  wider = λ h l. l;
  of_lit = λ bs s at k p e. omega (arith, lit_refuses bs s at k p e);
  of_name = λ s at k p e. omega (arith, name_refuses s at k p e);
  of_ranged = λ x lo hi most sx h m s at k p e.
      let test : ℕ × ℕ → Bool = λ v. leb lo v.0 && leb v.0 hi in
      after-refuses (checked 3 test (number x x) s at) _ k p e
      (λ g. checked_refuses 3 test (number x x) s at k p g (λ q. omega (arith, number_refuses x x s at k p q)) (λ v s' at' q kk pp. omega arith))
      (λ v s' at' g q. absurd (not_ok _ s' at' k p q));
}

-- what comes after `turns=` is not refused with 3
not_three : (s : Settings) → Full (s, []) → (u : List ℕ) (p : ℕ) → file (up_to_turns s ++ u) 0 ≡ fault 3 p → ⊥
not_three s h u p e =
    after-refuses (after (turns s.procs u (length (up_to_turns s))) (λ ts. give (s, ts))) ending 3 p (sym (reached (s, []) h u) ∙ e)
    (λ g.
    after-refuses (turns s.procs u (length (up_to_turns s))) (λ ts. give (s, ts)) 3 p g (λ q. other (turns_refuses s.procs u _ 3 p q))
    (λ ts s' at q r. not_ok (s, ts) s' at 3 p r))
    (λ v s' at g q. omega (arith, end_refuses v s' at 3 p q))
  where
    other : OfTurns 3 → ⊥
    other (inl e) = omega arith
    other (inr h) = omega arith

three : (bytes schedule : List ℕ) (place : ℕ) → reading bytes schedule ≡ refused_read 3 place schedule → (l : List ℕ) → UpToTurns l → ¬ (Prefix l bytes)
three bytes schedule place e l u =
    of_text l [] (λ (m : List ℕ). ¬ (Prefix m bytes)) u.0
    (λ s t f es ec.
    without (λ (ts : List ℕ). Full (s, ts) → ¬ (Prefix (up_to_end (s, ts)) bytes)) t (omega (arith, u.1))
    (λ g pre.
    let at_l : up_to_turns s ++ pre.rest ≡ bytes = rw (no_turns_end s) at pre.adds in
    not_three s g pre.rest place (rw at_l (refused_file bytes schedule 3 place (omega arith) (omega arith) e)))
    f)

-- the text before the turns, of settings that are accepted
up_to_turns_lem : (s : Settings) → Full (s, []) → UpToTurns (up_to_turns s)
up_to_turns_lem s h =
    let e : reading (up_to_turns s ++ feed ∷ []) [] ≡ accepted_read s [] [] = rw (← no_turns_end s, ← end_is (s, [])) (read_text (s, []) [] h (omega arith)) in
    (ap (λ (r : Reading). r.answer.number) e, ap (λ (r : Reading). r.answer.count) e)

-- what was read up to `turns=`, put together
found : (b : List ℕ) (f : Front) (rounds hold left left' left'' : List ℕ) → Opened f → Rows f.procs 0 zeros zeros (rounds, hold)
    → b ≡ front_text f ++ left → left ≡ rows_text f.procs 0 rounds hold ++ left' → left' ≡ bytes "turns=" ++ left''
    → (l : List ℕ) × UpToTurns l × Prefix l b
unfolding up_to_turns
found b f rounds hold left left' left'' o r x y z =
    let s : Settings = settings f rounds hold in
    (up_to_turns s, up_to_turns_lem s (to_full s [] o r (tt, omega arith)), record { rest = left''; adds = rw (x, y, z) (simp append_assoc) })

-- what is refused with 4 or 5 was read up to there
behind : (b : List ℕ) (k p : ℕ) → 4 ≤ k → file b 0 ≡ fault k p → (l : List ℕ) × UpToTurns l × Prefix l b
unfolding file whole rest
behind b k p h e =
    after-refuses (body b 0) ending k p e
    (λ g.
    after-refuses (front b 0) rest k p g (λ q. absurd (omega (arith, of_front low b 0 k p q)))
    (λ f left at q r.
    after-refuses (rows f.procs 0 zeros zeros left at) _ k p r (λ q'. absurd (omega (arith, of_rows low f.procs 0 zeros zeros left at k p q')))
    (λ v left' at' q' r'.
    after-refuses (lit (bytes "turns=") left' at') _ k p r' (λ q''. absurd (omega (arith, lit_refuses (bytes "turns=") left' at' k p q'')))
    (λ u left'' at'' q'' r''.
    let x = exact_front.was b 0 f left at q in
    let y = (exact_rows f.procs 0 zeros zeros (omega (arith, x.1.procs_high)) (omega (arith, x.1.procs_high))).was left at v left' at' q' in
    let z = (exact_lit (bytes "turns=")).was left' at' u left'' at'' q'' in
    found b f v.0 v.1 left left' left'' x.1 y.1 x.0 y.0 z.0))))
    (λ v s at q r. absurd (omega (arith, end_refuses v s at k p r)))

pub sides : Sides
sides = record {
  three = three;
  four_five = λ bytes schedule number place lo hi e. behind bytes number place (omega arith) (refused_file bytes schedule number place (omega arith) hi e);
}

-- ---- how far read looks

abbrev fullest_end : List ℕ
fullest_end = up_to_end (fullest, last_turns)

-- the longest file, one turn more of nine digits
last_byte_of : (n : ℕ) → 10 ^ 8 ≤ n → n < 10 ^ 9
    → (length ((fullest_end ++ comma ∷ decimal n) ++ feed ∷ []) ≡ farthest)
    × (reading ((fullest_end ++ comma ∷ decimal n) ++ feed ∷ []) (replicate most_turns 0) ≢ reading (fullest_end ++ comma ∷ decimal n) (replicate most_turns 0))
last_byte_of n lo hi = (
  simp length-append (omega (arith, nine n lo hi, length-append fullest_end (feed ∷ []), ap length (end_is (fullest, last_turns)), fullest_length)),
  λ same.
      let full : length last_turns ≡ most_turns = all_turns in
      let five = many_turns fullest last_turns fullest_full (omega arith) (replicate most_turns 0) [] n feed full hi (inr refl) in
      let one = cut_turn fullest last_turns fullest_full (omega arith) (replicate most_turns 0) n full hi in
      omega (arith, ap (λ (r : Reading). r.answer.number) (sym five ∙ rw (append_assoc) at same ∙ one)),
)

pub last_byte : (bytes : List ℕ) × (length (bytes ++ feed ∷ []) ≡ farthest)
    × (reading (bytes ++ feed ∷ []) (replicate most_turns 0) ≢ reading bytes (replicate most_turns 0))
last_byte = let e = last_byte_of (10 ^ 8) (omega arith) (omega arith) in (fullest_end ++ comma ∷ decimal (10 ^ 8), e.0, e.1)
