-- The name of a machine, found among the machines' names as the rules find it in their table.
use Rattle.std.proofs.Common.{◌≡◌, ℕ, Bool, true, false, cond, nat_eq, List, [], ◌∷◌, ◌&&◌, Option, Some, None, refl, sym, ap, ◌∙◌}
use lib.Pointwise.{pointwise}
use Rattle.std.proofs.lemmas.Iterator.Adapters.{option_map_id}
use Rattle.std.specs.List as std
use Rattle.std.specs.Option.{option_map}
use Rattle.rules.specs.Memory.{pick}
use Rattle.rules.specs.Machines.{Line, line, no_line, lock, barrier, bytes, same, named}
use Rattle.rules.specs.Ticket as ticket
use Rattle.rules.specs.Mcs as mcs
use Rattle.rules.specs.Central as central
use Rattle.rules.specs.Dissem as dissem
use Rattle.rules.specs.Tree as tree
use Rattle.settings.specs.Numbers.{algo_number, algo_name, Named}
use Rattle.settings.specs.declared.algo.Algo.{Algo}
use Rattle.settings.specs.declared.algo.Algo.TheVariants.{Ticket, Mcs, Central, Dissem, Tree}

-- the library's test of two texts is the rules'
same_text : (a b : List ℕ) → pointwise nat_eq a b ≡ same a b
same_text [] [] = refl
same_text [] (y ∷ b) = refl
same_text (x ∷ a) [] = refl
same_text (x ∷ a) (y ∷ b) = ap (λ r. nat_eq x y && r) (same_text a b)

-- the line that is found, by what each test says
abbrev found : (t m c d e : Bool) → Line
found t m c d e =
    pick t (line "ticket" 1 lock ticket.machine) (
    pick m (line "mcs" 2 lock mcs.machine) (
    pick c (line "central" 3 barrier central.machine) (
    pick d (line "dissem" 4 barrier dissem.machine) (
    pick e (line "tree" 5 barrier tree.machine) no_line))))

abbrev Tells : ℕ → Option Algo → Type 0
Tells n (Some a) = n ≡ algo_number a
Tells n None = n ≡ 0

-- what is found, by what each test says
abbrev first : (t m c d e : Bool) → Option Algo
first t m c d e = cond t (Some Ticket) (cond m (Some Mcs) (cond c (Some Central) (cond d (Some Dissem) (cond e (Some Tree) None))))

tells : (t m c d e : Bool) → Tells (found t m c d e).number (first t m c d e)
tells true m c d e = refl
tells false true c d e = refl
tells false false true d e = refl
tells false false false true e = refl
tells false false false false true = refl
tells false false false false false = refl

said : (name : List ℕ) (r : Option Algo) → Tells (named name).number r → Named name r
said name None h = h
said name (Some a) h = h

pub named_by : (name : List ℕ) (r : Option Algo)
    → option_map (λ x. x) r ≡ std.find (λ a. pointwise nat_eq name (algo_name a)) (Ticket ∷ Mcs ∷ Central ∷ Dissem ∷ Tree ∷ [])
    → Named name r
unfolding algo_name
named_by name r h =
    let e : r ≡ first (pointwise nat_eq name (bytes "ticket")) (pointwise nat_eq name (bytes "mcs")) (pointwise nat_eq name (bytes "central")) (pointwise nat_eq name (bytes "dissem")) (pointwise nat_eq name (bytes "tree")) = sym (option_map_id r) ∙ h in
    let f : Tells (named name).number r =
    rw (e, same_text name (bytes "ticket"), same_text name (bytes "mcs"), same_text name (bytes "central"), same_text name (bytes "dissem"), same_text name (bytes "tree"))
    (tells (same name (bytes "ticket")) (same name (bytes "mcs")) (same name (bytes "central")) (same name (bytes "dissem")) (same name (bytes "tree"))) in
    said name r f
