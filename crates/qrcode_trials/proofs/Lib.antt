mod Sides
