-- Every state of a legal history whose operations are within the limits is within them, and so is every reply.
use Rattle.std.proofs.Common.{◌≡◌, ℕ, zero, suc, ℤ, pos, negsuc, ◌+ℤ◌, ◌+◌, ◌<◌, ◌≤◌, ◌^◌, Bool, true, false, cond, not, ◌&&◌, ◌==◌, nat_lt, nat_le, ◌⊎◌, inl, inr, List, [], ◌∷◌, ◌++◌, length, take, Option, Some, None, option_map, is_some, unwrap_or, refl, sym, ap, subst, ◌∙◌, arith, nat_cmp}
use borrow.Author.Tests.{ltb-true}
use lib.Signed.{mag}
use Rattle.std.specs.Fmt.{signed_decimal}
use Rattle.std.specs.Str.{IsAscii}
use Rattle.std.specs.Char.{is_ascii}
use Rattle.std.specs.List.{list_all}
use Rattle.std.specs.Option.{option_or}
use Rattle.std.specs.Ordering.{eq_by_cmp}
use Rattle.std.specs.FinMap.{find, get, insert, retain_keys, entries, empty, from_entries, contains_key, get-insert, get-entries, get-empty, get-from_entries}
use Rattle.std.proofs.lemmas.Bool.Decides.{nat_tests}
use Rattle.std.proofs.lemmas.Cmp.{nat_cmp_total}
use Rattle.std.proofs.lemmas.Fmt.{IsAscii-signed, length_signed_le}
use Rattle.std.proofs.lemmas.List.Folds.{list_all-append}
use Rattle.obj_kinds.specs.declared.sub.Sub.{Sub}
use Rattle.obj_kinds.specs.declared.node.Node.{Node}
use Rattle.obj_kinds.specs.declared.value.Value.{Value}
use Rattle.obj_kinds.specs.declared.op.Pid.{Pid}
use Rattle.obj_kinds.specs.declared.op.Op.{Op}
use Rattle.obj_kinds.specs.declared.op.Op.TheVariants.{Get, Order, Set, Kill, Incr, Lock, Unlock, UnlockAll, Begin, Commit, RollbackOne, RollbackAll, End}
use Rattle.obj_kinds.specs.declared.op.Reply.TheVariants.{Done, Number, NotHeld, TooDeep}
use Rattle.obj_kinds.specs.Order.{node_cmp, covers}
use Rattle.obj_kinds.specs.OrderLaws.{node_total, node_exact}
use Rattle.obj_kinds.specs.Limits.{is_legal_text, is_legal_sub, is_legal_node, is_legal_value, is_legal_op, is_legal_reply, is_global_name}
use Rattle.obj_kinds.proofs.ValueLaws.{nested-Str, weight-Str, all_texts-Str}
use Rattle.obj_kinds.proofs.LineLaws.{covers_is}
use Rattle.lock_table.specs.declared.hold.Hold.{Hold}
use Rattle.lock_table.specs.Holds.{Holds, hold, all_back, all_given_back, without_end, tran_ended, all_dropped, is_counted, kept}
use Rattle.lock_table.specs.Conflict.{refusing, told, ask_reply, release_reply}
use Rattle.lock_table.proofs.FirstLaws.{first_is}
use Rattle.lock_table.proofs.HoldLaws.{changed_within, given_back_within, dropped_within, asked_keys}
use Rattle.global_tree.specs.Contents.{Globals}
use Rattle.global_tree.specs.Below.{next_below, child}
use Rattle.global_tree.proofs.MapLaws.{get-placed, one_key}
use Rattle.global_tree.proofs.NextLaws.{is_next}
use Rattle.tran_log.specs.Levels.{Olds, Level, Levels, begun, note_top, noted, committed, rolled_back, top_undone, undone, all_undone}
use Rattle.tran_log.proofs.LevelLaws.{get-noted, get-undone}
use Rattle.store_core.specs.declared.entry.Entry.{Entry}
use Rattle.store_core.specs.Machine.{State, Sight, seen, turn, after, answer, reply, live_with, levels_at, is_open, killed, stored, found_or, next_or, number_or, begun_reply, left_reply, opening}
use Rattle.store_core.specs.Numbers.{is_whole, incremented, number_at, as_value}
use Rattle.store_core.specs.History.{IsLegal, state_after}
use Rattle.store_core.specs.Ledger.{Pairs}
use Rattle.store_core.specs.Within.{is_legal_at, is_legal_pair, is_legal_old, AreLegal, AreLegalHolds, IsLegalLevel, AreLegalLevels, IsWithinLimits, AreLegalOps, AreLegalReplies}
use Rattle.store_core.proofs.FrameLaws.{no_levels}
use Rattle.store_core.proofs.Restored.{find_killed, get_killed}

and_first : (a b : Bool) → a && b ≡ true → a ≡ true
and_first true b e = refl
and_first false b e = cc

and_second : (a b : Bool) → a && b ≡ true → b ≡ true
and_second true b e = e
and_second false b e = cc

and_both : (a b : Bool) → a ≡ true → b ≡ true → a && b ≡ true
and_both true b e f = f
and_both false b e f = cc

-- ---- numbers
all_ascii : (text : List ℕ) → IsAscii text → list_all is_ascii text ≡ true
all_ascii [] h = refl
all_ascii (byte ∷ text) h = ap (λ b. b && list_all is_ascii text) (below (h 0)) ∙ all_ascii text (λ i. h (suc i))
  where
    below : byte < 128 → is_ascii byte ≡ true
    below lt = grind (arith, nat_tests)

small_mag : (z : ℤ) → is_whole z ≡ true → mag z < 10 ^ 18
small_mag (pos n) h = let lt = ltb-true n (10 ^ 18) h in omega arith
small_mag (negsuc n) h = let lt = ltb-true (suc n) (10 ^ 18) h in omega arith

short : (z : ℤ) → is_whole z ≡ true → length (signed_decimal z) ≤ 20
short z h = let m = small_mag z h in let le = length_signed_le 19 z (omega arith) (omega arith) in omega arith

tested : (m n : ℕ) → m ≤ n → nat_le m n ≡ true
tested m n h = grind (arith, nat_tests)

text_legal : (z : ℤ) → is_whole z ≡ true → is_legal_text (signed_decimal z) ≡ true
unfolding is_legal_text
text_legal z h =
    let m = small_mag z h in
    let few = short z h in
    and_both _ _ (tested (length (signed_decimal z)) 32767 (omega arith)) (all_ascii (signed_decimal z) (IsAscii-signed z (omega arith)))

number_legal : (z : ℤ) → is_whole z ≡ true → is_legal_value (as_value z) ≡ true
unfolding is_legal_value
number_legal z h =
    let few = short z h in
    rw (nested-Str (signed_decimal z) 16, weight-Str (signed_decimal z), all_texts-Str is_legal_text (signed_decimal z), text_legal z h, tested (length (signed_decimal z)) 32767 (omega arith)) refl

whole_sum : (v : Option Value) (k z : ℤ) → incremented v k ≡ Some z → is_whole z ≡ true
unfolding incremented
whole_sum v k z e = by (is_whole (number_at v)) (is_whole (number_at v +ℤ k)) refl e
  where
    by : (a b : Bool) → is_whole (number_at v +ℤ k) ≡ b → cond (a && b) (Some (number_at v +ℤ k)) None ≡ Some z → is_whole z ≡ true
    by true true q e = let same : number_at v +ℤ k ≡ z = cc in ap is_whole (sym same) ∙ q
    by true false q e = cc
    by false b q e = cc

small_whole : (n : ℕ) → n ≤ 255 → is_whole (pos n) ≡ true
small_whole n le = grind (arith, nat_tests)

-- ---- globals
legal_insert : (g : Globals) (m : Node) (v : Value) → AreLegal g → is_legal_node m ≡ true → is_legal_value v ≡ true → AreLegal (insert g m v)
legal_insert g m v legal node value n = ap (is_legal_at n) (get-insert node_total g m v n) ∙ by (eq_by_cmp node_cmp n m) refl
  where
    by : (b : Bool) → eq_by_cmp node_cmp n m ≡ b → is_legal_at n (cond b (Some v) (get g n)) ≡ true
    by true e = and_both _ _ (ap is_legal_node (one_key node_exact n m e) ∙ node) value
    by false e = legal n

legal_killed : (g : Globals) (m : Node) → AreLegal g → AreLegal (retain_keys g (λ k. not (covers m k)))
legal_killed g m legal n = ap (is_legal_at n) (get_killed g m n) ∙ by (covers m n)
  where
    by : (b : Bool) → is_legal_at n (cond (not b) (get g n) None) ≡ true
    by true = refl
    by false = legal n

legal_stored : (g : Globals) (m : Node) (o : Option ℤ) → AreLegal g → is_legal_node m ≡ true → ((z : ℤ) → o ≡ Some z → is_whole z ≡ true) → AreLegal (stored g m o)
legal_stored g m None legal node whole = legal
legal_stored g m (Some z) legal node whole = legal_insert g m (as_value z) legal node (number_legal z (whole z refl))

-- ---- levels
legal_or : (n : Node) (a b : Option (Option Value)) → is_legal_old n a ≡ true → is_legal_old n b ≡ true → is_legal_old n (option_or a b) ≡ true
legal_or n None b e f = f
legal_or n (Some v) b e f = e

abbrev AreLegalOlds : Olds → Type 0
AreLegalOlds es = (n : Node) → is_legal_old n (find node_cmp n es) ≡ true

legal_noted : (l : Level) (es : Olds) → IsLegalLevel l → AreLegalOlds es → IsLegalLevel (noted l es)
legal_noted l es legal olds n = ap (is_legal_old n) (get-noted es l n) ∙ legal_or n (get l n) (find node_cmp n es) (legal n) (olds n)

legal_note_top : (ls : Levels) (es : Olds) → AreLegalLevels ls → AreLegalOlds es → AreLegalLevels (note_top ls es)
legal_note_top [] es legal olds = tt
legal_note_top (l ∷ ls) es legal olds = (legal_noted l es legal.0 olds, legal.1)

set_olds : (g : Globals) (m : Node) → AreLegal g → AreLegalOlds ((m, get g m) ∷ [])
set_olds g m legal n = by (eq_by_cmp node_cmp n m) refl
  where
    by : (b : Bool) → eq_by_cmp node_cmp n m ≡ b → is_legal_old n (cond b (Some (get g m)) None) ≡ true
    by true e = ap (λ k. is_legal_at k (get g m)) (one_key node_exact n m e) ∙ legal m
    by false e = refl

kill_olds : (g : Globals) (m : Node) → AreLegal g → AreLegalOlds (killed g m)
kill_olds g m legal n = ap (is_legal_old n) (find_killed g m n) ∙ by (covers m n) (get g n) (legal n)
  where
    by : (b : Bool) (v : Option Value) → is_legal_at n v ≡ true → is_legal_old n (option_map Some (cond b v None)) ≡ true
    by true None e = refl
    by true (Some v) e = e
    by false v e = refl

legal_undone : (g : Globals) (l : Level) → AreLegal g → IsLegalLevel l → AreLegal (undone g l)
legal_undone g l legal level n = ap (is_legal_at n) (get-undone l g n) ∙ by (get l n) (level n)
  where
    by : (o : Option (Option Value)) → is_legal_old n o ≡ true → is_legal_at n (unwrap_or o (get g n)) ≡ true
    by None e = legal n
    by (Some v) e = e

legal_all_undone : (ls : Levels) (g : Globals) → AreLegal g → AreLegalLevels ls → AreLegal (all_undone g ls)
legal_all_undone [] g legal levels = legal
legal_all_undone (l ∷ ls) g legal levels = legal_all_undone ls (undone g l) (legal_undone g l legal levels.0) levels.1

legal_top_undone : (ls : Levels) (g : Globals) → AreLegal g → AreLegalLevels ls → AreLegal (top_undone g ls)
legal_top_undone [] g legal levels = legal
legal_top_undone (l ∷ ls) g legal levels = legal_undone g l legal levels.0

legal_committed : (ls : Levels) → AreLegalLevels ls → AreLegalLevels (committed ls)
legal_committed [] legal = tt
legal_committed (l ∷ []) legal = tt
legal_committed (l ∷ k ∷ ls) legal =
    (legal_noted k (entries l) legal.1.0 (λ n. ap (is_legal_old n) (sym (get-entries l n)) ∙ legal.0 n), legal.1.1)

legal_begun : (ls : Levels) → AreLegalLevels ls → AreLegalLevels (begun ls)
legal_begun ls legal = by (nat_lt (length ls) 255)
  where
    by : (b : Bool) → AreLegalLevels (cond b (empty ∷ ls) ls)
    by true = (λ n. ap (is_legal_old n) (get-empty {X = Option Value} node_cmp n), legal)
    by false = legal

legal_rolled_back : (ls : Levels) → AreLegalLevels ls → AreLegalLevels (rolled_back ls)
legal_rolled_back [] legal = tt
legal_rolled_back (l ∷ ls) legal = legal.1

few_noted : (ls : Levels) (es : Olds) → length ls ≤ 255 → length (note_top ls es) ≤ 255
few_noted [] es le = le
few_noted (l ∷ ls) es le = le

few_committed : (ls : Levels) → length ls ≤ 255 → length (committed ls) ≤ 255
few_committed [] le = le
few_committed (l ∷ []) le = omega arith
few_committed (l ∷ k ∷ ls) le = omega arith

few_rolled_back : (ls : Levels) → length ls ≤ 255 → length (rolled_back ls) ≤ 255
few_rolled_back [] le = le
few_rolled_back (l ∷ ls) le = omega arith

few_begun : (ls : Levels) → length ls ≤ 255 → length (begun ls) ≤ 255
few_begun ls le = by (nat_lt (length ls) 255) refl
  where
    by : (b : Bool) → nat_lt (length ls) 255 ≡ b → length (cond b (empty ∷ ls) ls) ≤ 255
    by true e = let lt = ltb-true (length ls) 255 e in omega arith
    by false e = le

-- ---- holds
legal_within : (new old : Holds) → ((h : Hold) → contains_key new h ≡ true → contains_key old h ≡ true) → AreLegalHolds old → AreLegalHolds new
legal_within new old within legal h there = legal h (within h there)

legal_left : (b : Bool) (p : Pid) (hs : Holds) → AreLegalHolds hs → AreLegalHolds (cond b (tran_ended hs p) hs)
unfolding tran_ended
legal_left true p hs legal = legal_within _ hs (changed_within (without_end p) hs) legal
legal_left false p hs legal = legal

-- ---- one turn
record IsWithin (s : Sight) : Type 0 where
  globals : AreLegal s.globals
  holds : AreLegalHolds s.holds
  levels : AreLegalLevels s.levels
  depth : length s.levels ≤ 255

turn_within : (s : Sight) (p : Pid) (op : Op) → IsWithin s → is_legal_op op ≡ true → IsWithin (turn s p op)
unfolding turn is_legal_op all_given_back all_dropped
turn_within s p (Set n v) w legal = record {
  globals = legal_insert s.globals n v w.globals (and_first _ _ legal) (and_second _ _ legal);
  holds = w.holds;
  levels = legal_note_top s.levels _ w.levels (set_olds s.globals n w.globals);
  depth = few_noted s.levels _ w.depth;
}
turn_within s p (Kill n) w legal = record {
  globals = legal_killed s.globals n w.globals;
  holds = w.holds;
  levels = legal_note_top s.levels _ w.levels (kill_olds s.globals n w.globals);
  depth = few_noted s.levels _ w.depth;
}
turn_within s p (Incr n k) w legal = record {
  globals = legal_stored s.globals n (incremented (get s.globals n) k) w.globals legal (λ z e. whole_sum (get s.globals n) k z e);
  holds = w.holds;
  levels = w.levels;
  depth = w.depth;
}
turn_within s p (Lock n m o k) w legal = record { globals = w.globals; holds = λ h there. either h (asked_keys s.holds (hold p n m o) k h there); levels = w.levels; depth = w.depth }
  where
    either : (h : Hold) → (h ≡ hold p n m o) ⊎ (contains_key s.holds h ≡ true) → is_legal_node h.node ≡ true
    either h (inl same) = ap (λ (x : Hold). is_legal_node x.node) same ∙ legal
    either h (inr there) = w.holds h there
turn_within s p (Unlock n m o) w legal = record { globals = w.globals; holds = legal_within _ s.holds (given_back_within s.holds (hold p n m o) (is_open s.levels)) w.holds; levels = w.levels; depth = w.depth }
turn_within s p (UnlockAll o) w legal = record { globals = w.globals; holds = legal_within _ s.holds (changed_within (all_back p o (is_open s.levels)) s.holds) w.holds; levels = w.levels; depth = w.depth }
turn_within s p Begin w legal = record { globals = w.globals; holds = w.holds; levels = legal_begun s.levels w.levels; depth = few_begun s.levels w.depth }
turn_within s p Commit w legal = record { globals = w.globals; holds = legal_left _ p s.holds w.holds; levels = legal_committed s.levels w.levels; depth = few_committed s.levels w.depth }
turn_within s p RollbackOne w legal = record { globals = legal_top_undone s.levels s.globals w.globals w.levels; holds = legal_left _ p s.holds w.holds; levels = legal_rolled_back s.levels w.levels; depth = few_rolled_back s.levels w.depth }
turn_within s p RollbackAll w legal = record { globals = legal_all_undone s.levels s.globals w.globals w.levels; holds = legal_left _ p s.holds w.holds; levels = tt; depth = omega arith }
turn_within s p End w legal = record { globals = legal_all_undone s.levels s.globals w.globals w.levels; holds = legal_within _ s.holds (dropped_within s.holds (λ h. not (h.pid.0 == p.0))) w.holds; levels = tt; depth = omega arith }
turn_within s p _ w legal = w

-- ---- states
seen_within : (s : State) (p : Pid) → IsWithinLimits s → IsWithin (seen s p)
seen_within s p w = record { globals = w.globals; holds = w.holds; levels = w.levels p.0; depth = w.depth p.0 }

legal_live : (op : Op) (ls : Levels) → AreLegalLevels ls → AreLegalLevels (unwrap_or (live_with op ls) [])
legal_live End ls legal = tt
legal_live _ ls legal = legal

few_live : (op : Op) (ls : Levels) → length ls ≤ 255 → length (unwrap_or (live_with op ls) []) ≤ 255
few_live End ls le = omega arith
few_live _ ls le = le

pub after_within : (s : State) (p : Pid) (op : Op) → IsWithinLimits s → is_legal_op op ≡ true → IsWithinLimits (after s p op)
unfolding after
after_within s p op w legal = record {
  globals = new.globals;
  holds = new.holds;
  levels = λ q. subst AreLegalLevels (sym (own q)) (levels q (eq_by_cmp nat_cmp q p.0));
  depth = λ q. subst (λ ls. length ls ≤ 255) (sym (own q)) (depth q (eq_by_cmp nat_cmp q p.0));
}
  where
    new : IsWithin (turn (seen s p) p op)
    new = turn_within (seen s p) p op (seen_within s p w) legal

    own : (q : ℕ) → levels_at (after s p op) q ≡ unwrap_or (cond (eq_by_cmp nat_cmp q p.0) (live_with op (turn (seen s p) p op).levels) (get s.levels q)) []
    own q = ap (λ o. unwrap_or o []) (get-placed nat_cmp_total s.levels p.0 (live_with op (turn (seen s p) p op).levels) q)

    levels : (q : ℕ) (b : Bool) → AreLegalLevels (unwrap_or (cond b (live_with op (turn (seen s p) p op).levels) (get s.levels q)) [])
    levels q true = legal_live op _ new.levels
    levels q false = w.levels q

    depth : (q : ℕ) (b : Bool) → length (unwrap_or (cond b (live_with op (turn (seen s p) p op).levels) (get s.levels q)) []) ≤ 255
    depth q true = few_live op _ new.depth
    depth q false = w.depth q

-- ---- replies
found_legal : (n : Node) (v : Option Value) → is_legal_at n v ≡ true → is_legal_reply (found_or v) ≡ true
unfolding is_legal_reply
found_legal n None e = refl
found_legal n (Some v) e = and_second _ _ e

front_all : (test : Sub → Bool) (k : ℕ) (xs : List Sub) → list_all test xs ≡ true → list_all test (take k xs) ≡ true
front_all test zero xs e = refl
front_all test (suc k) [] e = refl
front_all test (suc k) (x ∷ xs) e = and_both _ _ (and_first _ _ e) (front_all test k xs (and_second _ _ e))

third : (a b c : Bool) → a && b && c ≡ true → c ≡ true
third true true c e = e
third true false c e = cc
third false b c e = cc

subs_legal : (n : Node) → is_legal_node n ≡ true → list_all is_legal_sub n.subs ≡ true
unfolding is_legal_node
subs_legal n e = third (is_global_name n.global) (nat_le (length n.subs) 8) (list_all is_legal_sub n.subs) e

there_legal : (g : Globals) (m : Node) → AreLegal g → contains_key g m ≡ true → is_legal_node m ≡ true
there_legal g m legal there = by (get g m) (legal m) there
  where
    by : (o : Option Value) → is_legal_at m o ≡ true → is_some o ≡ true → is_legal_node m ≡ true
    by None e h = cc
    by (Some v) e h = and_first _ _ e

child_legal : (g : Globals) (n : Node) (s : Sub) (m : Node) → AreLegal g → covers (child n s) m ≡ true → contains_key g m ≡ true → is_legal_sub s ≡ true
child_legal g n s m legal c there =
    let all = front_all is_legal_sub (length (n.subs ++ s ∷ [])) m.subs (subs_legal m (there_legal g m legal there)) in
    let is = ap (λ (k : Node). k.subs) (covers_is (child n s) m c).0 in
    let parts = sym (list_all-append is_legal_sub n.subs (s ∷ [])) ∙ ap (list_all is_legal_sub) is ∙ all in
    and_first _ _ (and_second _ _ parts)

next_legal : (g : Globals) (n : Node) (late : Option Sub) → AreLegal g → is_legal_reply (next_or (next_below g n late)) ≡ true
unfolding is_legal_reply
next_legal g n late legal = by (next_below g n late) refl
  where
    by : (o : Option Sub) → next_below g n late ≡ o → is_legal_reply (next_or o) ≡ true
    by None e = refl
    by (Some s) e = let there = (is_next g n late s e).there in child_legal g n s there.0 legal there.1 there.2

held_legal : (hs : Holds) (h : Hold) → AreLegalHolds hs → is_legal_reply (ask_reply hs h) ≡ true
unfolding is_legal_reply
held_legal hs h legal = by (refusing hs h) refl
  where
    by : (o : Option Hold) → refusing hs h ≡ o → is_legal_reply (told o) ≡ true
    by None e = refl
    by (Some x) e = legal x (first_is hs h x e).is_there

number_reply : (v : Option Value) (k : ℤ) → is_legal_reply (number_or (incremented v k)) ≡ true
unfolding is_legal_reply
number_reply v k = by (incremented v k) refl
  where
    by : (o : Option ℤ) → incremented v k ≡ o → is_legal_reply (number_or o) ≡ true
    by None e = refl
    by (Some z) e = whole_sum v k z e

begun_legal : (ls : Levels) → is_legal_reply (begun_reply ls) ≡ true
unfolding is_legal_reply
begun_legal ls = by (nat_lt (length ls) 255) refl
  where
    by : (b : Bool) → nat_lt (length ls) 255 ≡ b → is_legal_reply (cond b (Number (pos (length ls + 1))) TooDeep) ≡ true
    by true e = let lt = ltb-true (length ls) 255 e in small_whole (length ls + 1) (omega arith)
    by false e = refl

left_legal : (ls : Levels) → length ls ≤ 255 → is_legal_reply (left_reply ls) ≡ true
unfolding is_legal_reply
left_legal [] le = refl
left_legal (l ∷ ls) le = small_whole (length ls) (omega arith)

released_legal : (hs : Holds) (h : Hold) → is_legal_reply (release_reply hs h) ≡ true
unfolding is_legal_reply
released_legal hs h = by (is_counted (kept hs h))
  where
    by : (b : Bool) → is_legal_reply (cond b Done NotHeld) ≡ true
    by true = refl
    by false = refl

answer_legal : (s : Sight) (p : Pid) (op : Op) → IsWithin s → is_legal_reply (answer s p op) ≡ true
unfolding answer is_legal_reply
answer_legal s p (Get n) w = found_legal n (get s.globals n) (w.globals n)
answer_legal s p (Order n late) w = next_legal s.globals n late w.globals
answer_legal s p (Incr n k) w = number_reply (get s.globals n) k
answer_legal s p (Lock n m o k) w = held_legal s.holds (hold p n m o) w.holds
answer_legal s p (Unlock n m o) w = released_legal s.holds (hold p n m o)
answer_legal s p Begin w = begun_legal s.levels
answer_legal s p Commit w = left_legal s.levels w.depth
answer_legal s p RollbackOne w = left_legal s.levels w.depth
answer_legal s p _ w = refl

pub reply_within : (s : State) (p : Pid) (op : Op) → IsWithinLimits s → is_legal_reply (reply s p op) ≡ true
unfolding reply
reply_within s p op w = answer_legal (seen s p) p op (seen_within s p w)

-- ---- the opening
-- nodes that are within the limits one by one are so as globals
pub nodes_legal : (nodes : Pairs) → list_all is_legal_pair nodes ≡ true → AreLegal (from_entries nodes)
nodes_legal nodes all n = ap (is_legal_at n) (get-from_entries node_total nodes n) ∙ each nodes all
  where
    each : (es : Pairs) → list_all is_legal_pair es ≡ true → is_legal_at n (find node_cmp n es) ≡ true
    each [] e = refl
    each (x ∷ xs) e = by (eq_by_cmp node_cmp n x.0) refl (each xs (and_second _ _ e))
      where
        by : (b : Bool) → eq_by_cmp node_cmp n x.0 ≡ b → is_legal_at n (find node_cmp n xs) ≡ true → is_legal_at n (cond b (Some x.1) (find node_cmp n xs)) ≡ true
        by true t rest = ap (λ k. is_legal_node k && is_legal_value x.1) (one_key node_exact n x.0 t) ∙ and_first _ _ e
        by false t rest = rest

-- ---- histories
pub opening_within : (pids : ℕ) (g : Globals) → AreLegal g → IsWithinLimits (opening pids g)
opening_within pids g legal = record {
  globals = legal;
  holds = λ h there. cc (ap is_some (empty_hold h), there);
  levels = λ q. subst AreLegalLevels (sym (no_levels pids q)) tt;
  depth = λ q. subst (λ ls. length ls ≤ 255) (sym (no_levels pids q)) (omega arith);
}
  where
    empty_hold : (h : Hold) → get (opening pids g).holds h ≡ None
    empty_hold h = get-empty _ h

pub states_within : (s : State) (es : List Entry) → IsWithinLimits s → AreLegalOps es → IsWithinLimits (state_after s es)
states_within s [] w ops = w
states_within s (e ∷ es) w ops = states_within (after s e.pid e.op) es (after_within s e.pid e.op w ops.0) ops.1

pub replies_within : (s : State) (es : List Entry) → IsWithinLimits s → IsLegal s es → AreLegalOps es → AreLegalReplies es
replies_within s [] w legal ops = tt
replies_within s (e ∷ es) w legal ops =
    (ap is_legal_reply legal.0.1 ∙ reply_within s e.pid e.op w, replies_within (after s e.pid e.op) es (after_within s e.pid e.op w ops.0) legal.1 ops.1)

pub beginning_ops : (es fs : List Entry) → AreLegalOps (es ++ fs) → AreLegalOps es
beginning_ops [] fs ops = tt
beginning_ops (e ∷ es) fs ops = (ops.0, beginning_ops es fs ops.1)
