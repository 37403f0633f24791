-- A world after a turn.
use Rattle.std.proofs.Common.{◌≡◌, ℕ, true, List, [], ◌∷◌, ◌++◌, length, map, take, drop, Some, sym, ap, ap₂, ◌∙◌, arith, subst, inl, inr, Result, Ok, Err}
use Rattle.std.specs.Prelude.{All, IfOk, OnErr, OnOk, ◌⊎◌}
use Rattle.std.proofs.lemmas.Bool.{cases_Bool}
use Rattle.std.proofs.lemmas.List.{take-append-le, take_all}
use Rattle.sh_base.specs.declared.memory.Mem.{Mem}
use Rattle.sh_tensor.specs.Tensor.{TensorValue}
use Rattle.sh_turns.specs.declared.Turn.{Turn}
use Rattle.sh_turns.specs.Program.{collectives}
use Rattle.sh_turns.specs.World.{World, after, can_move, goes_on, start, turn}
use Rattle.sh_turns.proofs.Kept.{after_stays, run_on}
use Rattle.sh_world.specs.declared.scripts.Script.{Script}
use Rattle.sh_world.specs.declared.states.State.{State}
use Rattle.sh_world.specs.Machine.{AfterTurns, IsAfter, IsRunnable, Source, StandsFor, WorldValue, instructions_of, program_of}
use Rattle.sh_world.specs.Scripts.{AllArePlaced}
use Rattle.sh_world.specs.Sound.{IsSound, arguments_in, source_of, value_of}
use Rattle.sh_world.specs.States.{HasPosted, HasRoom, device_of}

-- what is so of each list of turns is so of the devices
pub this_holds : (m : WorldValue) (Holds : World TensorValue → Type 0) (turns : List ℕ) → StandsFor m turns → AfterTurns m Holds → Holds m.devices
this_holds m Holds turns stands all = all turns m.devices stands stands

-- a slice written back where it stood
pub written : (items new : List State) (count : ℕ) → count ≡ length items → length new ≡ length items → take count (new ++ drop (length new) items) ≡ new
written items new count whole size =
    let same : count ≡ length new = omega (arith, whole, size) in
    take-append-le count new (drop (length new) items) (omega (arith, same)) ∙ take_all count new (omega (arith, same))

either : {A B : Type 0} (r : Result Turn Mem) → OnOk r A → OnErr r B → A ⊎ B
either (Ok t) a b = inl a
either (Err e) a b = inr b

module _ (x : Script) (old new : List State) (c : ℕ) (sound : IsSound x old) (arguments : map (arguments_in x.arity) new ≡ map (arguments_in x.arity) old) where
  pub source_kept : source_of x new ≡ source_of x old
  source_kept = ap (λ rows. record { function = x.func.now; grid = x.grid.now; arguments = rows }) arguments

  pub value_stays : map device_of new ≡ map device_of old → value_of x new ≡ value_of x old
  value_stays e = ap₂ (λ (s : Source) (w : World TensorValue). record { source = s; devices = w }) source_kept e

  pub goes_by_one : map device_of new ≡ after (program_of (source_of x old)) (map device_of old) c → can_move (program_of (source_of x old)) (map device_of old) c ≡ true
      → goes_on (turn (program_of (source_of x old)) (map device_of old) c) ≡ true → (turns : List ℕ) → StandsFor (value_of x old) turns → StandsFor (value_of x new) (turns ++ c ∷ [])
  goes_by_one devices can on turns stands =
      let p = program_of (source_of x old) in
      let ran = run_on p turns (start p) (map device_of old) c stands can on in
      subst (λ (s : Source). IsAfter s (turns ++ c ∷ []) (map device_of new)) (sym source_kept) (ran ∙ ap (λ w. Some w) (sym devices))

  pub goes_where_ok : (r : Result Turn Mem) → IfOk r (λ t. t ≡ turn (program_of (source_of x old)) (map device_of old) c)
      → OnOk r (map device_of new ≡ after (program_of (source_of x old)) (map device_of old) c) → can_move (program_of (source_of x old)) (map device_of old) c ≡ true
      → IfOk r (λ t. goes_on t ≡ true → (turns : List ℕ) → StandsFor (value_of x old) turns → StandsFor (value_of x new) (turns ++ c ∷ []))
  goes_where_ok (Ok t) kind devices can = λ on turns stands. goes_by_one devices can (sym (ap goes_on kind) ∙ on) turns stands
  goes_where_ok (Err e) kind devices can = tt

  stands_same : map device_of new ≡ map device_of old → (turns : List ℕ) × StandsFor (value_of x new) turns
  stands_same e = (sound.stands.0, subst (λ (m : WorldValue). StandsFor m sound.stands.0) (sym (value_stays e)) sound.stands.1)

  stands_after : map device_of new ≡ after (program_of (source_of x old)) (map device_of old) c → can_move (program_of (source_of x old)) (map device_of old) c ≡ true
      → (turns : List ℕ) × StandsFor (value_of x new) turns
  stands_after devices can =
      let p = program_of (source_of x old) in
      elim (cases_Bool (goes_on (turn p (map device_of old) c))) [
        | inl on ↦ (sound.stands.0 ++ c ∷ [], goes_by_one devices can on sound.stands.0 sound.stands.1)
        | inr off ↦ stands_same (devices ∙ after_stays p (map device_of old) c off)
      ]

  pub stands_on : (r : Result Turn Mem) → OnOk r (map device_of new ≡ after (program_of (source_of x old)) (map device_of old) c) → OnErr r (map device_of new ≡ map device_of old)
      → can_move (program_of (source_of x old)) (map device_of old) c ≡ true → (turns : List ℕ) × StandsFor (value_of x new) turns
  stands_on r ok err can =
      elim (either r ok err) [ inl devices ↦ stands_after devices can | inr same ↦ stands_same same ]

  pub sound_on : All HasPosted new → All (HasRoom (collectives (program_of (source_of x old)) (program_of (source_of x old)).size)) new
      → ((turns : List ℕ) × StandsFor (value_of x new) turns) → IsSound x new
  sound_on posted room stands = record {
    runnable = subst IsRunnable (sym source_kept) sound.runnable;
    arity = sound.arity;
    placed =
        subst (λ (s : Source). AllArePlaced (map (λ a. a.id) x.func.now.args) (instructions_of s) (length (instructions_of s)) x.instructions.items) (sym source_kept) sound.placed;
    results = sound.results ∙ ap (λ (s : Source). (program_of s).results) (sym source_kept);
    posted = posted;
    room = subst (λ (s : Source). All (HasRoom (collectives (program_of s) (program_of s).size)) new) (sym source_kept) room;
    stands = stands;
  }
