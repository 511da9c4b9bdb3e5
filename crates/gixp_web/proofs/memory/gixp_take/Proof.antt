-- `gixp_take` hands over the block that the allocator returned.
use Rattle.std.proofs.Common.{◌≡◌, ℕ, Bool, true, false, List, [], ◌∷◌, ◌++◌, Ok, Err, refl, ap, ◌∙◌, lit<, w32, w64}
use Rattle.std.proofs.raw_atomic.Walks.{proved}
use seplogic.Ra.Ura.{Ura}
use base.Fraction.{full_share}
use base.Logic.{SProp, ent, sep, guard, emp, id⊢, fst∗, never}
use mathlib.Core.Logic.{inl, inr}
use base.Fml.{ftrue, fsep, flft}
use contract.Monad.{Fun, fact, fact_i}
use contract.Running.{tables}
use mir.Syntax.{Ty, Body, named, impl, tnil, dnil}
use mir.Val.{Val, vint, vptr, of_list}
use prog.Memory.{Memory}
use prog.Routine.{Routine}
use prog.Wp.{Env, Wp, after_seq, at_return}
use types.Logic.{Logic, sem}
use types.Kit.{Post as After, any_q, ‵, raw, ◌⊛◌, some, later, at_ret, ◌$◌, ◌∵◌, !, qed, done, move, keep, drop, use0, use1, use2, split, split3, join, pick, fsplit, fsplit3, fjoin, fjoin3, fpick, feq_i, feq_l, check, show, rewrite, suffices, frame, await}
use types.Match.{live, vrt, in_variant}
use types.Part.{whole}
use types.Run.{enter, of_opd, lit, no_more, and_then, returns, stop, fld, store, first, assigns, switches_on, exec}
use types.ByLocal.{alloc_all, pass_all, free_all, look_at, get, get_in, get_tag, through, sets, sets_last, lands_as, env}
use denote.Builtin.{u8, u32, usize, RefOf}
use denote.Exit.{yes}
use denote.Memory.{cell_at}
use denote.Plain.{uint_vals, uint_Tells, uint_Makes}
use denote.RattleType.{owns}
use denote.RawPtr.{Ptr, RawPtr, block_ptr, null_ptr, ptr_val, room_for, in_a_block}
use denote.Ref.{shr_vals, mut_vals, mut_Tells}
use denote.Signature.{plain, types_at}
use denote.Steps.{nothing, owned, only, opens, closes}
use denote.Triple.Call.{calls_at}
use denote.Triple.Clauses.{lasts}
use denote.Triple.Spec.{triple_of}
use denote.Triple.Table.{framed}
use denote.Triple.Walked.{Stays, walk_of, stay_dropped, stay_ref, Goes-dropped, Goes-ref, ends_at, says}
use Rattle.std.specs.Allocator.{HasLayout, array_of, block_if_ok}
use Rattle.std.specs.contracts.alloc.Global as Heap
use Rattle.std.proofs.alloc.Global.TheLaws as heap
use Rattle.std.specs.contracts.impls.GlobalAllocator.TheImpl.{ghosts, dict}
use Rattle.std.specs.contracts.impls.GlobalAllocator.allocate as g
use Rattle.std.proofs.impls.GlobalAllocator.allocate.Met.{met}
use Rattle.std.proofs.alloc.Calls.{Al, Answer, answer_val, Answer-typed, Answered, answers, got, token}
use Rattle.std.proofs.alloc.Shapes.{after, head, arm_body}
use Rattle.gixp_web.proofs.Layouts.{layout}
use Rattle.gixp_web.specs.contracts.memory.gixp_take as f
use Rattle.gixp_web.proofs.memory.gixp_take.Statement.{statement}
use Rattle.gixp_web.proofs.memory.gixp_take.Code as code

abbrev stayed : Stays f.ended.signature.params f.ended.kept
stayed = (stay_dropped (RefOf (0 ∷ []) tt (plain (λ _. Heap.the_row)) (λ _. tt)) yes, (stay_dropped (plain (λ _. usize)) yes, (stay_ref (1 ∷ []) tt (plain (λ _. RawPtr)), tt)))

abbrev Z : Al
Z = record { row = Heap.the_row; laws = heap.the_row_laws; g = ghosts; d = dict; drops = impl [] tnil dnil }

-- the two cases of what `allocate` returned
module _ {M : Type 1} {𝓤 : Ura M} (𝓛 : Logic 𝓤) (at_mem : Memory → SProp 𝓤) (run : Routine → Fun 𝓤) (a : Z.row.Denot) (τ : Ty) (v : Val) where
  abbrev Case : Bool × (ℕ × ℕ) → SProp 𝓤
  Case c = guard 𝓤 (v ≡ answer_val c.0 c.1.0 c.1.1) (sem 𝓛 (got (token Z a) τ c.0 c.1.0 c.1.1))

  answered : (r : Answer.Denot) → ent 𝓤 (sep 𝓤 (sem 𝓛 (Answer.own_val r (v ∷ []))) (sem 𝓛 (block_if_ok (token Z a) τ r))) (Answered Z 𝓛 at_mem run a τ v)
  answered (Ok r) =
      qed 𝓛 (‵ (Answer.own_val (Ok r) (v ∷ [])) ∷ ‵ (fsep (room_for τ r) (token Z a τ r)) ∷ []) ∵
      fpick ! (λ us. fsplit ! $ feq_l ! (λ e. fpick ! (λ vss. fsplit ! $ feq_l ! (λ e'. fsplit ! $ feq_l ! (λ e''. drop ! $
      in_a_block ! r (λ z. fsep (room_for τ z) (token Z a τ z)) (fst∗ 𝓤 (never 𝓤) (sem 𝓛 (token Z a τ null_ptr))) (λ b o at.
      show ! Case (true, (b, o)) $
      check ! (ap only e ∙ ap (λ (ws : List Val). live 0 (of_list ws)) (e' ∙ ap (λ (ws : List Val). ws ++ []) (e'' ∙ ap (λ (z : Ptr). ptr_val z ∷ []) at))) $ done !))))))
  answered (Err n) =
      qed 𝓛 (‵ (Answer.own_val (Err n) (v ∷ [])) ∷ ‵ ftrue ∷ []) ∵
      fpick ! (λ us. fsplit ! $ feq_l ! (λ e. fpick ! (λ vss. fsplit ! $ feq_l ! (λ e'. fsplit ! $ fpick ! (λ none. fsplit ! $ feq_l ! (λ e''. keep ! [] $
      show ! Case (false, (0, 0)) $
      check ! (ap only e ∙ ap (λ (ws : List Val). live 1 (of_list ws)) (e' ∙ ap (λ (ws : List Val). ws ++ []) e'')) $ done !))))))

pub gixp_take_spec : {M : Type 1} → statement M
gixp_take_spec 𝓤 𝓛 𝓜 𝓡 wired =
    let c = f.clauses 𝓛 𝓜.mem 𝓡.returns in let W = walk_of 𝓛 f.ended stayed c in let 𝓣 = tables 𝓤 𝓛.H 𝓜 𝓡 𝓡.env in
    proved 𝓛 f.ended stayed c 𝓜 𝓡
    (Goes-dropped 𝓛 2 (RefOf (0 ∷ []) tt (plain (λ _. Heap.the_row)) (λ _. tt)) yes (λ κs x w. refl), (Goes-dropped 𝓛 2 (plain (λ _. usize)) yes (λ κs x w. refl), (Goes-ref 𝓛 2 1 tt (plain (λ _. RawPtr)), tt)))
    f.Key.name code.function (code.unfolded 𝓤 𝓛.H 𝓜 𝓡 wired)
    (λ κs. (shr_vals, (uint_vals w64, (mut_vals, tt)))) (λ κs. ((λ r vs s. s.0), (uint_Tells w64, (mut_Tells (named 1) κs.1.0 RawPtr, tt)))) (λ κs qs bounds a _ are.
    let κ = κs.0 in let ρ = κs.1.0 in let q = qs.0 in let qρ = qs.1.0 in
    let r = a.0 in let n = a.1.0 in let m = a.1.1.0 in let fit = are.1.0.1 in let τ = array_of u8 n in
    let bm = m.ref_ptr.0 in let om = m.ref_ptr.1 in
    let y : W.Ghost = ((κs, qs, bounds, a, (shr_vals r, (vint w64 n ∷ [], (mut_vals m, tt)))), tt) in
    let G = triple_of 𝓛 g.signature (g.spec 𝓛 𝓜.mem 𝓡.returns) in
    let z : G.Ghost = (((κ, tt), (q, tt), tt, (r, (n, (1, tt))), (shr_vals r, (vint w64 n ∷ [], (vint w64 1 ∷ [], tt)))), τ) in
    let Said : Type 0 = HasLayout τ n 1 in
    qed 𝓛 (((‵ (flft κ q) ⊛ ‵ (flft ρ qρ) ⊛ ‵ ftrue) ⊛ ‵ (owns (types_at f.signature.params κs) a y.0.4)) ∷ ‵ ftrue ∷ []) ∵
    split ! $ move ! (2 ∷ []) $ drop ! $ split3 ! $ move ! (2 ∷ []) $ drop ! $ move ! (2 ∷ []) $ fsplit ! $ move ! (1 ∷ []) $ fsplit ! $ move ! (1 ∷ []) $ fsplit ! $
    -- [the place for the address; nothing; the length; the handle; the two tokens]
    owned ! usize _ (uint_Makes 𝓛 w64) 1 _ (refl, lit< tt) $ move ! (0 ∷ 2 ∷ []) $ fjoin ! $ move ! (2 ∷ 0 ∷ []) $ fjoin ! $ move ! (2 ∷ 0 ∷ []) $ fjoin ! $
    nothing ! $ move ! (3 ∷ 0 ∷ []) $ join ! $ join ! $ use0 𝓛 (raw (fact 𝓤 Said)) (fact_i 𝓤 Said (emp 𝓤) (layout n fit)) $ move ! (1 ∷ 0 ∷ []) $
    use2 𝓛 (raw (G.pre z)) (id⊢ 𝓤 _) $
    enter ! _ _ _ _ _ $ alloc_all ! (λ l. pass_all ! refl ((tt, tt), ((tt, record { fits = fit }), ((tt, tt), tt))) $
    let En : Env 𝓤 𝓛.H = env (code.function).locals l in
    let Post : Val → SProp 𝓤 = W.post y in
    let both : Body = head (after 1 (code.function).body) in
    let Then : After 𝓤 𝓛.H = any_q (after_seq 𝓤 𝓛.H (Wp 𝓤 𝓛.H 𝓣.C 𝓣.Λ En (after 2 (code.function).body) (at_return 𝓤 𝓛.H En Post)) (at_return 𝓤 𝓛.H En Post)) in
    calls_at ! (framed 𝓤 𝓛.H 𝓜 𝓣) G (met 𝓤 𝓛 𝓜 𝓡 (code.calls-std_heap::GlobalAllocator::allocate 𝓡.env wired)) z
    (and_then ! (get ! refl) (and_then ! (get ! refl) (and_then ! (lit ! tt) (no_more !)))) (λ v.
    use1 𝓛 (later (some (λ (s : Answer.Denot). ((‵ (flft κ q) ⊛ ‵ ftrue) ⊛ ‵ (Answer.own_val s (v ∷ []))) ⊛
    some (λ (ws : Unit {0} × (Unit {0} × (Unit {0} × Unit {0}))). ‵ (lasts g.ended z.0.0 z.0.3 ws) ⊛ ‵ (block_if_ok (ghosts.dealloc_token r.now) τ s))))) (id⊢ 𝓤 _) $
    await ! tt $ pick ! (λ s. split ! $ split ! $ split ! $ move ! (3 ∷ []) $ pick ! (λ ws. split ! $ drop ! $ move ! (3 ∷ 0 ∷ []) $
    use2 𝓛 (raw (Answered Z 𝓛 𝓜.mem 𝓡.returns r.now τ v)) (answered 𝓛 𝓜.mem 𝓡.returns r.now τ v s) $
    -- [what `allocate` returned; the token of the handle; nothing; the place for the address; its token]
    answers Z ! 𝓜.mem 𝓡.returns r.now τ v
    (λ b o e. fjoin ! $ lands_as ! e refl (Answer-typed true b o) $
    first ! $ switches_on ! (get_tag ! (vrt ! refl (fld ! refl (stop !))) (whole !)) $ exec ! 𝓣.C 𝓣.Λ En (arm_body 0 both) Then $
    sets ! (of_opd ! (get_in ! (vrt ! refl (fld ! refl (stop !))) (in_variant ! 0 0 refl refl (whole !)))) refl (tt, tt) $
    move ! (3 ∷ []) $ fsplit3 ! $ move ! (1 ∷ 2 ∷ 6 ∷ []) $ opens ! tt RawPtr bm om (λ us. move ! (1 ∷ []) $ feq_l ! (λ is.
    rewrite ! 0 (λ (ws' : List Val). ‵ (cell_at full_share RawPtr.mir ws' bm om)) is refl $
    assigns ! (of_opd ! (get ! refl)) (through ! refl (stop !)) (store ! 0 refl (tt, tt)) $
    feq_i ! (List Val) (vptr b o ∷ []) (vptr b o ∷ []) refl $ move ! (1 ∷ 0 ∷ []) $ closes ! tt RawPtr (block_ptr b o) (vptr b o ∷ []) bm om $
    -- [two parts of the place; its token; its first part; the block; the handle's token; nothing]
    sets_last ! (of_opd ! (lit ! tt)) refl (tt, record { fits = lit< tt }) $ exec ! 𝓣.C 𝓣.Λ En (after 2 (code.function).body) (at_ret En Post) $
    sets ! (of_opd ! (get ! refl)) refl (tt, record { fits = lit< tt }) $ returns ! (look_at ! 0 refl) $ free_all ! refl $
    suffices ! _ (ends_at 𝓛 f.ended stayed c y (vint w32 0) 0 (tt, (tt, (block_ptr b o, tt))) (tt, (tt, (tt, tt)))) $
    move ! (3 ∷ 0 ∷ 1 ∷ []) $ fjoin3 ! $ nothing ! $ move ! (1 ∷ 0 ∷ []) $ fjoin ! $ nothing ! $ fjoin ! $ nothing ! $ fjoin ! $
    owned ! u32 _ (uint_Makes 𝓛 w32) 0 _ (refl, lit< tt) $ move ! (1 ∷ 0 ∷ []) $ join ! $
    move ! (1 ∷ 4 ∷ []) $ join ! $ move ! (3 ∷ 0 ∷ []) $ join ! $ join ! $ frame ! $ says ! (inl refl) $ done !)))
    (λ e. lands_as ! e refl (Answer-typed false 0 0) $
    first ! $ switches_on ! (get_tag ! (vrt ! refl (fld ! refl (stop !))) (whole !)) $ exec ! 𝓣.C 𝓣.Λ En (arm_body 1 both) Then $
    sets_last ! (of_opd ! (lit ! tt)) refl (tt, record { fits = lit< tt }) $ exec ! 𝓣.C 𝓣.Λ En (after 2 (code.function).body) (at_ret En Post) $
    sets ! (of_opd ! (get ! refl)) refl (tt, record { fits = lit< tt }) $ returns ! (look_at ! 0 refl) $ free_all ! refl $
    suffices ! _ (ends_at 𝓛 f.ended stayed c y (vint w32 4) 4 (tt, (tt, (m.now, tt))) (tt, (tt, (tt, tt)))) $
    move ! (2 ∷ []) $ nothing ! $ move ! (1 ∷ 0 ∷ []) $ fjoin ! $ nothing ! $ fjoin ! $ nothing ! $ fjoin ! $
    owned ! u32 _ (uint_Makes 𝓛 w32) 4 _ (refl, lit< tt) $ move ! (1 ∷ 0 ∷ []) $ join ! $
    move ! (3 ∷ 2 ∷ []) $ join ! $ move ! (2 ∷ 0 ∷ []) $ join ! $ join ! $ frame ! $ says ! (inr (refl, refl)) $ nothing ! $ done !))))))
