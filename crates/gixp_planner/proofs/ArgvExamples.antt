-- The words of some command lines.
use Rattle.std.proofs.Common.{◌≡◌, ℕ, List, [], ◌∷◌, codes, Some, None, refl}
use Rattle.gixp_planner.specs.Argv.{refs_file, plan_args}

abbrev line : List (List ℕ) → List (List ℕ)
line words = codes "gixp_plan" ∷ words

a_word_too_many : refs_file (line (codes "refs" ∷ codes "x" ∷ codes "y" ∷ [])) ≡ None
a_word_too_many = refl

a_file : refs_file (line (codes "refs" ∷ codes "x" ∷ [])) ≡ Some (codes "x")
a_file = refl

no_file : refs_file (line (codes "refs" ∷ [])) ≡ None
no_file = refl

another_command : refs_file (line (codes "Refs" ∷ codes "x" ∷ [])) ≡ None
another_command = refl

a_plan_lists_nothing : refs_file (line (codes "plan" ∷ codes "x" ∷ [])) ≡ None
a_plan_lists_nothing = refl

no_word : refs_file (line []) ≡ None
no_word = refl

no_folder : plan_args (line (codes "plan" ∷ [])) ≡ None
no_folder = refl

no_refspec : plan_args (line (codes "plan" ∷ codes "x" ∷ [])) ≡ None
no_refspec = refl

a_refspec : plan_args (line (codes "plan" ∷ codes "x" ∷ codes "y" ∷ [])) ≡ Some (codes "x", codes "y" ∷ [])
a_refspec = refl

an_empty_refspec : plan_args (line (codes "plan" ∷ codes "x" ∷ codes "y" ∷ codes "" ∷ codes "z" ∷ []))
    ≡ Some (codes "x", codes "y" ∷ codes "" ∷ codes "z" ∷ [])
an_empty_refspec = refl

another_plan : plan_args (line (codes "Plan" ∷ codes "x" ∷ codes "y" ∷ [])) ≡ None
another_plan = refl

a_list_plans_nothing : plan_args (line (codes "refs" ∷ codes "x" ∷ [])) ≡ None
a_list_plans_nothing = refl
