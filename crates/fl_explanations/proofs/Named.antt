-- The lines of who has a capability.
use Rattle.std.proofs.Common.{◌≡◌, ◌∙◌, ◌+◌, ap, arith, length, length-append, sym, vec_len, ℕ, List, ◌++◌, codes, map, Option, None, Some}
use Rattle.std.proofs.lemmas.List.{append_assoc, append-nil, length-map}
use Rattle.std.proofs.lemmas.List.Concat.{flat_map-append}
use Rattle.std.proofs.lemmas.List.Folds.{flat_map-map}
use Rattle.std.specs.List.{flat_map}
use Rattle.fl_labels.specs.Cap.{cap_cmp}
use Rattle.fl_labels.specs.SetBy.{SetBy, len, len-members, members}
use Rattle.fl_labels.specs.Text.{cap_text, name_text}
use Rattle.fl_labels.specs.declared.name.Name.{Name}
use Rattle.fl_chains.specs.declared.logins.Login.{Login}
use Rattle.fl_replies.specs.ReplyText.{count_text}
use Rattle.fl_explanations.specs.Lines.{cap_line, everybody_lines, group_line, lines_text, login_line, missing_lines, process_line, who_lines}
use Rattle.fl_explanations.specs.declared.who.Who.{Who}

module _ (who : Who) where
  abbrev all : List (List ℕ) → List ℕ
  all = flat_map (λ (line : List ℕ). line)

  pub line_count : length (who_lines who) ≡ length (everybody_lines who.everybody)
      + (length who.processes.items + (length who.groups.items + length who.logins.items))
  line_count =
      let some = length-append (everybody_lines who.everybody) (map process_line who.processes.items
      ++ (map group_line who.groups.items ++ map login_line who.logins.items)) in
      let more = length-append (map process_line who.processes.items)
      (map group_line who.groups.items ++ map login_line who.logins.items) in
      let last = length-append (map group_line who.groups.items)
      (map login_line who.logins.items) in
      let processes = length-map who.processes.items process_line in
      let groups = length-map who.groups.items group_line in
      let logins = length-map who.logins.items login_line in
      omega (arith, some, more, last, processes, groups, logins)

  behind : all (map process_line who.processes.items
      ++ (map group_line who.groups.items ++ map login_line who.logins.items))
      ≡ flat_map process_line who.processes.items
      ++ (flat_map group_line who.groups.items ++ flat_map login_line who.logins.items)
  behind =
      flat_map-append (λ (line : List ℕ). line) (map process_line who.processes.items)
      (map group_line who.groups.items ++ map login_line who.logins.items)
      ∙ (λ i. flat_map-map (λ (line : List ℕ). line) process_line who.processes.items i
      ++ flat_map-append (λ (line : List ℕ). line) (map group_line who.groups.items)
      (map login_line who.logins.items) i)
      ∙ (λ i. flat_map process_line who.processes.items
      ++ (flat_map-map (λ (line : List ℕ). line) group_line who.groups.items i
      ++ flat_map-map (λ (line : List ℕ). line) login_line who.logins.items i))

  pub who_text : (count : ℕ) → count ≡ length (who_lines who)
      → lines_text (who_lines who) ≡ count_text (codes "lines ") count
      ++ (all (everybody_lines who.everybody) ++ (flat_map process_line who.processes.items
      ++ (flat_map group_line who.groups.items ++ flat_map login_line who.logins.items)))
  who_text count is =
      ap (λ n. count_text (codes "lines ") n ++ all (who_lines who)) (sym is)
      ∙ ap (λ l. count_text (codes "lines ") count ++ l)
      (flat_map-append (λ (line : List ℕ). line) (everybody_lines who.everybody)
      (map process_line who.processes.items
      ++ (map group_line who.groups.items ++ map login_line who.logins.items))
      ∙ ap (λ l. all (everybody_lines who.everybody) ++ l) behind)

-- the line of a login, as it is put
pub login_parts : (login : Login) → login_line login
    ≡ (codes "login " ++ name_text login.name) ++ ((codes " " ++ cap_text login.cap) ++ codes "\n")
login_parts login =
    sym (append_assoc (codes "login ") (name_text login.name)
    (codes " " ++ (cap_text login.cap ++ codes "\n")))
    ∙ ap (λ l. (codes "login " ++ name_text login.name) ++ l)
    (sym (append_assoc (codes " ") (cap_text login.cap) (codes "\n")))

-- the line of everybody, where there is one
pub one_line : (everybody : Option Name) (name : Name) → everybody ≡ Some name
    → length (everybody_lines everybody) ≡ 1
one_line everybody name is = ap (λ e. length (everybody_lines e)) is

pub no_line : (everybody : Option Name) → everybody ≡ None
    → length (everybody_lines everybody) ≡ 0
no_line everybody is = ap (λ e. length (everybody_lines e)) is

pub everybody_some : (everybody : Option Name) (name : Name) → everybody ≡ Some name
    → flat_map (λ (line : List ℕ). line) (everybody_lines everybody)
    ≡ codes "everybody " ++ (name_text name ++ codes "\n")
everybody_some everybody name is =
    ap (λ e. flat_map (λ (line : List ℕ). line) (everybody_lines e)) is
    ∙ append-nil (codes "everybody " ++ (name_text name ++ codes "\n"))

pub count_is : (who : Who) (e p g l : ℕ) → e ≡ length (everybody_lines who.everybody)
    → p ≡ vec_len who.processes → g ≡ vec_len who.groups → l ≡ vec_len who.logins
    → e + (p + (g + l)) ≡ length (who_lines who)
count_is who e p g l some processes groups logins =
    let counted = line_count who in
    let a = who.processes.ok.0 in
    let b = who.groups.ok.0 in
    let d = who.logins.ok.0 in
    omega (arith, counted, a, b, d, some, processes, groups, logins)

-- the lines of what is wanting, by how many there are
pub missing_text : (caps : SetBy cap_cmp) (count : ℕ) → count ≡ len caps
    → lines_text (missing_lines caps)
    ≡ count_text (codes "lines ") count ++ flat_map cap_line (members caps)
missing_text caps count is =
    let counted = is ∙ len-members caps ∙ sym (length-map (members caps) cap_line) in
    ap (λ n. count_text (codes "lines ") n ++ flat_map (λ (line : List ℕ). line) (missing_lines caps))
    (sym counted)
    ∙ ap (λ l. count_text (codes "lines ") count ++ l)
    (flat_map-map (λ (line : List ℕ). line) cap_line (members caps))
